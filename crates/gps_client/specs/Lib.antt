pub mod Answers
pub mod History
pub mod Objects
pub mod Polls
pub mod Ranges
pub mod Reading
pub mod Texts
