mod Halves
pub mod Lengths
pub mod Seconds
