pub mod Numbers
pub mod Preparing
