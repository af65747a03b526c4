pub mod Limits
pub mod Events
pub mod Schedules
pub mod Faults
