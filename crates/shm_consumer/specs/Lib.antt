pub mod Giving
pub mod Readings
pub mod Rule
pub mod Taking
pub mod Views
