-- labels as two numbers, joint steps at places, keeping to the labels
pub mod Labels
pub mod Joint
pub mod Keeping
pub mod Laws
