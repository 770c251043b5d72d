-- definitions: the call's answer and its refusals
pub mod Weighing
pub mod Accepting
-- theorems on the best by weights
pub mod WeightedBest
pub mod Agreement
-- a word that shows what rankings cannot give
pub mod GangingUp
-- the walk and the search
pub mod WeightedWalk
pub mod Searching
-- theorems of what the call answers: demand 3, the bound of S-8, that the two engines agree, and two calls with work slices of their own
pub mod Demand3
pub mod CountsThatFit
pub mod TwoEngines
pub mod TwoCalls
