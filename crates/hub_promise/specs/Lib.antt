pub mod Parts
pub mod Given
pub mod DaemonHub
pub mod Keeping
pub mod Steps
pub mod Giving
