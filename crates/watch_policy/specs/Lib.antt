pub mod Change
pub mod Policies
pub mod Selection
