pub mod Seating
pub mod Dropping
pub mod Asking
pub mod Released
pub mod Sending
