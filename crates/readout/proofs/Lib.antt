pub mod Found
pub mod Searched
pub mod SetsCalls
pub mod Labels
pub mod Reading
pub mod Walking
pub mod WordCalls
pub mod Words
