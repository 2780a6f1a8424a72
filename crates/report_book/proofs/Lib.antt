pub mod Lists
pub mod Adding
pub mod Turning
pub mod Changing
pub mod Reading
pub mod Ending
pub mod Calls
pub mod Allowing
