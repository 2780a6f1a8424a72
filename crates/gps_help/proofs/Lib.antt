pub mod Agreement
pub mod AnyMap
pub mod Causes
pub mod Halves
pub mod Options
pub mod Places
