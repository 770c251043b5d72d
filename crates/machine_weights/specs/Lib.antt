pub mod Highs
