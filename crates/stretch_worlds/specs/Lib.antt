pub mod Stretching
pub mod Turns
pub mod Holding
