pub mod Tally
pub mod TallyLaws
