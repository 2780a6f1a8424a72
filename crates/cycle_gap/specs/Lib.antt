pub mod End
pub mod Handed
