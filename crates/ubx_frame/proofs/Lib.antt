pub mod Frames
pub mod Rows
pub mod Stable
mod Windows
