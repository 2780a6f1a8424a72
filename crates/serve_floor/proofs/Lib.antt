pub mod Admitting
pub mod Resting
pub mod Sending
