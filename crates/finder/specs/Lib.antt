pub mod Finder
pub mod Steps
pub mod Order
pub mod FinderTheorems
