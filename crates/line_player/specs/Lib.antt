pub mod Rules
pub mod Courses
pub mod Outcomes
pub mod Played
pub mod LineSteps
