pub mod Tableau
pub mod Reading
pub mod Judging
pub mod Laws
