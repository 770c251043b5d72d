pub mod Running
pub mod Scoring
pub mod Answers
