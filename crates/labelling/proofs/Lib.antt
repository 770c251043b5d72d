pub mod Sizes
pub mod Closed
pub mod Labelled
pub mod Finishing
pub mod Looping
pub mod Preparing
