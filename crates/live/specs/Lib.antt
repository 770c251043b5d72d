-- definitions
pub mod Rows
pub mod Calls
pub mod Afresh
pub mod Steps
-- what the theorems say
pub mod LiveTableau
