mod Runs
mod Lists
mod Tails
pub mod Theorem
mod Body
pub mod Stable
