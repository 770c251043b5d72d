-- definitions
pub mod Tableau
pub mod Winning
pub mod Judging
pub mod Judges
-- lemmas
pub mod Laws
-- what the theorems say
pub mod Verdicts
