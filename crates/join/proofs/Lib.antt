pub mod Lengths
pub mod CardParts
pub mod Answers
