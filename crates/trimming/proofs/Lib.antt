-- what the theorems rest on
pub mod Lists
pub mod Runs
pub mod Parts
pub mod Answers
-- the trimmed card is accepted, and has the same best
pub mod Acceptance
pub mod SameBest
-- the theorem, over the calls
pub mod Trimming
pub mod TrimmedAnswers
