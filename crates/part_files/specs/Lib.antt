pub mod PartFiles
pub mod Logs
pub mod MemoryLog
pub mod PartStores
pub mod Paths
