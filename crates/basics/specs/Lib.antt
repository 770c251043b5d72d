pub mod Words
pub mod Search
pub mod Products
pub mod Sets
