-- Laws that the functions here and the theorems on joined machines rest on.
pub mod Crossed
pub mod KindsInCommon
pub mod CommonPairs
pub mod Placed
pub mod Writing
