pub mod Trying
pub mod Laws
