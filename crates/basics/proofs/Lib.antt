pub mod Words
pub mod Bools
pub mod Search
pub mod Below
pub mod Occurrences
pub mod Sets
