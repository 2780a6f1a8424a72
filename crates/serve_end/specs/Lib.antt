pub mod Lines
pub mod Plans
pub mod Failing
pub mod Lanes
pub mod Outlets
pub mod Runs
pub mod Units
