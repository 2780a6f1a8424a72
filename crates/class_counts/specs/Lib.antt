pub mod Counted
pub mod Lines
pub mod Reading
pub mod Standing
pub mod Tallies
pub mod Writing
