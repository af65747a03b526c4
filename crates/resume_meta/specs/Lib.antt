pub mod Keepers
pub mod MemoryKeeper
pub mod Meta
pub mod steps
