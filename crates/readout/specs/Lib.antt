-- definitions
pub mod Searching
