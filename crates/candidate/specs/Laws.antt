-- Laws of candidates as bytes that other crates and the functions' proofs rest on.
pub mod Pairs
