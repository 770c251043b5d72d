pub mod Symbols
pub mod SymbolSets
pub mod Laws
