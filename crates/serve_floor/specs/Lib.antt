pub mod Admitting
pub mod Bursts
