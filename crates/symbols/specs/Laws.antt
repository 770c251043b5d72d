-- Laws of sets of symbols that other crates and the functions' proofs rest on.
pub mod SymbolSets
pub mod Partners
