-- definitions
pub mod SmallAnswers
pub mod Optimizes
pub mod Telling
-- the theorems that join the calls' contracts with demand 3, and with the bound of S-8
pub mod Demands
pub mod Demand3
pub mod CountsThatFit
-- sets of one symbol each, and two calls with work slices of their own
pub mod SetsCalls
pub mod TwoCalls
