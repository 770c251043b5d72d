pub mod Lengths
pub mod PartSteps
pub mod Answers
