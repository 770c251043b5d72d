pub mod First
pub mod Replies
pub mod Tallies
