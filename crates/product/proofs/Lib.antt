mod Words
mod Sets
-- lemmas and theorems on the best of the definitions
pub mod Preferred
pub mod Listing
pub mod Best
pub mod BestTheorem
pub mod BestOfSets
pub mod SetsTheorem
pub mod Searches
pub mod CountsFit
pub mod OneSymbolEach
pub mod LabelTheorem
