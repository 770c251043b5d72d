pub mod PlaceCount
pub mod Places
pub mod Steps
pub mod Endings
