pub mod Served
pub mod Closing
