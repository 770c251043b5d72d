-- Lemmas about the definitions, for the theorems and for proofs.
pub mod Rankings
pub mod Harmony
pub mod Conditions
pub mod Searches
pub mod Arrangements
pub mod Profiles
