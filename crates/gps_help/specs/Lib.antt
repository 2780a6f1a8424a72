pub mod Agreement
pub mod Causes
pub mod DeviceCauses
pub mod Options
pub mod Places
pub mod Questions
pub mod Refusals
