pub mod Checksum
pub mod Frame
pub mod Scan
pub mod Window
