pub mod Sentence
pub mod Scan
pub mod Blocks
