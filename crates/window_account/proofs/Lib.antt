mod Weigh
pub mod OneRoot
pub mod Tuples
pub mod Opening
pub mod Stepping
pub mod Keeping
pub mod Ending
