pub mod Spelling
pub mod Rows
pub mod SameCounts
pub mod Layouts
pub mod Verdicts
