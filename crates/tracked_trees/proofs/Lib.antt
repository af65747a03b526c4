pub mod Each
pub mod Good
pub mod Short
pub mod Depths
pub mod Enough
