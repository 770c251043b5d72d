pub mod Relaxation
pub mod Entering
pub mod Tables
pub mod Inputs
