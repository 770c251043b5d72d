pub mod Sizes
pub mod Columns
pub mod Tightness
pub mod Marks
pub mod Nodes
pub mod Passing
pub mod Ends
pub mod Walking
