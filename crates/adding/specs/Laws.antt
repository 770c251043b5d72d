-- Laws of cells and their sums.
pub mod Numbers
pub mod Sums
