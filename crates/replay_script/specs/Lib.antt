pub mod Events
pub mod Words
pub mod Sentences
pub mod Workload
pub mod TextLines
