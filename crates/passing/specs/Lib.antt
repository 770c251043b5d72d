-- steps at places, going on and ending
pub mod Places
pub mod Going
