pub mod Parsing
pub mod Input
pub mod Taking
pub mod LinesOfPieces
pub mod Examples
