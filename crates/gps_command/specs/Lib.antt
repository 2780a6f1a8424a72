pub mod Commands
pub mod Faults
pub mod Kept
pub mod Policies
pub mod Requests
pub mod Steps
pub mod Texts
