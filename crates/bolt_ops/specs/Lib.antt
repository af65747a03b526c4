pub mod Operations
pub mod RowOp
pub mod Stored
