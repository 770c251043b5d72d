pub mod Reading
pub mod Checking
pub mod Answering
pub mod Accepting
pub mod Demand3
pub mod CountsThatFit
pub mod TwoEngines
