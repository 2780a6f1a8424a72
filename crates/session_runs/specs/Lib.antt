pub mod Runs
pub mod Following
pub mod Laws
pub mod Asking
pub mod AskingLaws
pub mod Accounts
pub mod Due
