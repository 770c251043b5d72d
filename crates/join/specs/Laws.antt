-- Laws that the theorems on joined machines rest on.
pub mod Merged
pub mod Machines
pub mod Steps
pub mod Sound
pub mod Ranking
pub mod Markless
pub mod Parts
pub mod Joinable
pub mod MachineBytes
