-- The insertions in lists. Definitions:
pub mod RankedWeights
pub mod Listed
pub mod Lanes
pub mod Tables
pub mod Listing
pub mod Laws
