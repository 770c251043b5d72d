pub mod Placing
pub mod Ending
