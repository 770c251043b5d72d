-- definitions
pub mod Readiness
-- what accepted input promises
pub mod AcceptedInput
