-- Laws of the bytes of a card.
pub mod Bytes
pub mod Parts
pub mod Places
pub mod Packed
