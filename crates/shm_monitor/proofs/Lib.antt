pub mod Whole
pub mod Keeping
pub mod Going
pub mod Positions
