pub mod Readings
pub mod Outputs
pub mod Accounts
