pub mod EdgeLine
pub mod Pulse
pub mod Scan
