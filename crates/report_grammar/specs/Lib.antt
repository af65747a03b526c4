pub mod Lines
pub mod Report
pub mod WellFormed
pub mod steps
