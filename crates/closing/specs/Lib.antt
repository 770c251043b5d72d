pub mod CountsPacking
pub mod Closing
