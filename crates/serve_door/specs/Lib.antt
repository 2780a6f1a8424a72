pub mod Doors
pub mod Released
