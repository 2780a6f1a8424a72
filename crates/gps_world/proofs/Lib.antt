pub mod Firsts
pub mod Asking
pub mod Held
pub mod Unread
