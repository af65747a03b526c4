pub mod Inside
pub mod Tallies
