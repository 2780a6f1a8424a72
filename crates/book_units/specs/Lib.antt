pub mod Changes
pub mod Samples
pub mod Steps
pub mod Units
