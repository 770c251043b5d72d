pub mod Fours
pub mod Symbols
pub mod LastPosition
