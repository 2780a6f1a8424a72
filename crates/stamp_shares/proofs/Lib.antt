pub mod Sharing
pub mod Rules
