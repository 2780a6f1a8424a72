pub mod Policies
pub mod Intervals
pub mod Growth
pub mod Gaining
pub mod Joining
