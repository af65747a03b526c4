pub mod Reached
pub mod Tries
