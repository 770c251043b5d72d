pub mod Printed
pub mod Tally
pub mod TallyLaws
