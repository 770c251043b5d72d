-- Laws of the weighted order.
pub mod Sound
pub mod Weighing
pub mod Done
pub mod FirstPlace
pub mod Prices
pub mod Room
