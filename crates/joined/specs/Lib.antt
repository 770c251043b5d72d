pub mod JoinedMachine
pub mod CommonPairs
pub mod MachineBytes
pub mod Writing
pub mod Laws
