pub mod Labels
pub mod Numbers
pub mod Pairs
pub mod Rooms
pub mod Rows
