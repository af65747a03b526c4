pub mod Codes
pub mod Covering
pub mod EdgeOrder
mod Examples
pub mod Few
pub mod Odd
pub mod Once
pub mod Paths
pub mod Roots
pub mod Stuck
pub mod Toggles
pub mod Told
pub mod Words
