pub mod Digits
mod EdgeLines
pub mod Pasts
