pub mod Stream
pub mod Reports
pub mod Standing
pub mod Drafts
pub mod Going
