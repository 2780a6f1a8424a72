pub mod Pumping
pub mod Admitting
pub mod Emptied
