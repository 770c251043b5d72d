pub mod Relaxing
pub mod Front
pub mod Lanes
pub mod Fours
pub mod Listing
