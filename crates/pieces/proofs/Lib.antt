pub mod Pieces
pub mod Closing
