pub mod Lists
pub mod Cutting
pub mod Decimals
pub mod Writes
pub mod Texts
