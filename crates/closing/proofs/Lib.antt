pub mod Passing
pub mod Writing
pub mod ClosingCodes
pub mod ClosingSums
pub mod ClosingExample
