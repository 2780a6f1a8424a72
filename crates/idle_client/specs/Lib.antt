pub mod Idle
pub mod Timing
