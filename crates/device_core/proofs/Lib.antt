pub mod Streams
pub mod Toffs
pub mod Taking
pub mod Devices
pub mod Decided
pub mod Quiet
