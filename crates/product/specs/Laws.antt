-- Lemmas, in the order in which they build on one another: words, nodes and steps; the cost of a path, and that paths are
-- candidates; edges and codes, letters, entering a position and finding the least pair, for an engine; then what the definition of the best lists,
-- and that its best is the best path.
pub mod Words
pub mod Sets
pub mod Nodes
pub mod JointStep
pub mod PathCost
pub mod Candidates
pub mod Edges
pub mod Codes
pub mod Accepted
pub mod CardGraph
pub mod PassedNodes
pub mod Setting
pub mod Letters
pub mod Entering
pub mod LeastPair
pub mod Preference
pub mod Following
pub mod Listing
pub mod Counts
pub mod BestCandidate
pub mod BestOfSets
pub mod SymbolSets
-- sums of weights
pub mod Sums
pub mod SoundWeights
