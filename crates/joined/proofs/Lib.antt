pub mod Rest
pub mod Parts
