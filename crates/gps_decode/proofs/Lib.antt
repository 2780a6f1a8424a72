pub mod UnderWay
pub mod Ends
pub mod HandingOn
pub mod Causes
