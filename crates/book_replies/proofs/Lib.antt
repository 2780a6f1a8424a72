pub mod Joined
pub mod Polls
