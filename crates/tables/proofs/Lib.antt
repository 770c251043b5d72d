pub mod Codes
pub mod Work
pub mod Starting
pub mod Machines
pub mod Prefix
pub mod Counts
pub mod JointRows
pub mod SumLabels
