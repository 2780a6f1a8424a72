pub mod Given
mod Orders
mod Rooms
