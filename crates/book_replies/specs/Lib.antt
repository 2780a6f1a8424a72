pub mod ReplyDataView
pub mod Laws
pub mod Replies
pub mod Polling
