-- Laws of trying.
pub mod Least
pub mod Trying
pub mod Entering
pub mod Meeting
pub mod Position
pub mod Tried
