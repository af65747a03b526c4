pub mod Sending
pub mod Lanes
pub mod Rows
pub mod Targets
