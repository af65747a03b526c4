pub mod Faults
pub mod Schedules
pub mod Runs
pub mod Driving
pub mod Following
pub mod Rounding
pub mod Laws
