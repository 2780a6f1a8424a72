pub mod Run
pub mod Closings
pub mod Generated
pub mod Replayed
pub mod Scripts
