pub mod Layout
pub mod LaidOut
pub mod Packing
pub mod Laws
