pub mod Words
pub mod Items
pub mod Closings
pub mod Readings
