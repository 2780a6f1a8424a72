pub mod Loads
pub mod Readings
pub mod MonitorView
