pub mod Head
pub mod Lines
pub mod Joined
pub mod Alike
pub mod Carried
pub mod Across
pub mod Asking
