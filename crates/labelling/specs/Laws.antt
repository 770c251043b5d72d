-- Laws of labelling.
pub mod Packed
pub mod Ranked
pub mod Numbers
pub mod LabelRoom
pub mod Settled
pub mod Tied
