pub mod Rules
pub mod Agreeing
