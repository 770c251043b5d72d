pub mod Output
pub mod Totals
