pub mod Winning
pub mod Verdicts
pub mod Answers
