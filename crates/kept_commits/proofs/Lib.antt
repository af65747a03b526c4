pub mod Keeping
pub mod KeptRuns
pub mod Runs
pub mod Unique
