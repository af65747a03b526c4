pub mod Counts
pub mod Each
pub mod Equality
pub mod Sums
pub mod Weighing
