pub mod Composed
pub mod Pipes
pub mod Fixes
pub mod Sessions
