-- Laws of insertions.
pub mod Ranked
