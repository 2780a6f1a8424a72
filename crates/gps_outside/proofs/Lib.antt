pub mod Going
pub mod Writing
pub mod Streams
pub mod Dials
pub mod ReadSteps
pub mod Statuses
pub mod Limits
