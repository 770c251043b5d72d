pub mod Forms
pub mod Receiving
pub mod Bounds
