-- definitions
pub mod Nodes
pub mod JointStep
pub mod Prices
pub mod ProductGraph
pub mod Codes
pub mod Setting
pub mod Best
pub mod Sets
pub mod Answering
pub mod Optimizing
pub mod OptimizingSets
pub mod BestCandidate
pub mod PassedNodes
-- definitions of Harmonic Grammar: constraints have weights, and sums are compared
pub mod Weights
pub mod Dominance
-- lemmas
pub mod Laws
-- theorems
pub mod CandidatePaths
pub mod BestTheorem
pub mod SetsTheorem
pub mod Searches
pub mod CountsFit
pub mod OneSymbolEach
pub mod LabelTheorem
-- theorems by weights
pub mod DominanceTheorem
pub mod WeightedPaths
pub mod WeightedGraph
pub mod SmallLabels
