pub mod Edges
pub mod Orders
pub mod Entries
pub mod Failures
pub mod Check
pub mod States
pub mod Traces
