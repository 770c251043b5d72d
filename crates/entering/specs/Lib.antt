pub mod Entering
pub mod Symbols
pub mod Endings
pub mod Laws
