pub mod Ends
pub mod Feeding
pub mod Readings
pub mod Tallying
pub mod CountingSteps
pub mod Within
