pub mod Rows
pub mod Afresh
pub mod Places
pub mod Leading
pub mod Answers
pub mod LiveTableau
