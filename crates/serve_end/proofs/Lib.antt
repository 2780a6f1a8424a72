pub mod Texts
pub mod Causes
pub mod Emptying
pub mod Endings
pub mod Published
