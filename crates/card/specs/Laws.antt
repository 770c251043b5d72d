-- Laws that the theorems on cards rest on.
pub mod Search
pub mod Bytes
pub mod Parts
pub mod Layout
pub mod Machines
pub mod Repacked
pub mod Packed
pub mod Packable
pub mod Checked
