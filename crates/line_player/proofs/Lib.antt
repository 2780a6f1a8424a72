pub mod Courses
pub mod Running
pub mod Dues
pub mod Writing
pub mod Ending
pub mod Reading
pub mod Causes
pub mod Complete
