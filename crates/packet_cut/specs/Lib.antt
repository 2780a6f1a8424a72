pub mod Heads
pub mod Packets
pub mod Next
pub mod Standing
pub mod Runs
