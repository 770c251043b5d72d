pub mod Sets
pub mod Demotion
pub mod Pairs
pub mod Steps
