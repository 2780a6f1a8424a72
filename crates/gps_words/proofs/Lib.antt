pub mod Given
pub mod NumberTexts
pub mod Readings
pub mod Rows
pub mod DeviceWords
pub mod Colons
pub mod Within
pub mod CommandRanges
