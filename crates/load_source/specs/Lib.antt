pub mod File
pub mod Records
