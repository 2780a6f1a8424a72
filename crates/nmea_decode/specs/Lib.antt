pub mod Fields
pub mod Readings
pub mod Places
pub mod Kinds
pub mod Satellites
pub mod Notes
