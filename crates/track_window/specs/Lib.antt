pub mod Acts
pub mod Jobs
pub mod Making
pub mod Noted
pub mod Walks
