-- definitions that the contracts cite
pub mod WalkLabels
pub mod Walked
pub mod RankedBest
