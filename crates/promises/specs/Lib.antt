-- every promise in one record, and that each is kept
pub mod Promises
pub mod Kept
