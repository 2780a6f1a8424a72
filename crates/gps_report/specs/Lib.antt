pub mod Fits
pub mod Name
pub mod Note
pub mod Systems
