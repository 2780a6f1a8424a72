pub mod MemberView
pub mod Answering
pub mod Roster
pub mod Spreading
pub mod Walks
pub mod Allowing
