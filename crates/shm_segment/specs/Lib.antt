pub mod Publishing
pub mod Rule
pub mod Samples
pub mod Seats
pub mod Views
pub mod Words
