pub mod Entries
pub mod Readings
pub mod History
pub mod Standing
pub mod DeviceLogView
pub mod Pieces
pub mod Steps
pub mod Turning
