pub mod Steps
pub mod Tracked
