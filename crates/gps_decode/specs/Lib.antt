pub mod Readings
pub mod Texts
pub mod Outcomes
pub mod Decode
