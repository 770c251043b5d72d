pub mod Cells
pub mod Adding
pub mod Laws
