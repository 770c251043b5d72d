-- Laws of the tables.
pub mod Packing
pub mod Harmony
pub mod Cards
pub mod Edges
pub mod Endings
