-- Lemmas: counts and rows; what a tableau promises of which nothing is refused.
pub mod Counts
pub mod Rows
pub mod Accepted
