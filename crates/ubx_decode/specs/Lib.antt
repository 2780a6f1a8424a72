pub mod Fields
pub mod Message
pub mod Motion
pub mod Pvt
pub mod Sat
pub mod Time
