pub mod Calls
pub mod Contents
pub mod Heads
pub mod Rounds
pub mod Views
