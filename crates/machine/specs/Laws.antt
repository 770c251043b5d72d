-- Laws of parts and sets of symbols that other crates and the functions' proofs rest on.
pub mod SymbolSets
pub mod Partners
pub mod SetLoops
pub mod Arcs
pub mod States
