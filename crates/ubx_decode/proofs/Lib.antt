pub mod Fitting
pub mod Satellites
pub mod Sums
pub mod Short
