pub mod Saying
pub mod Outboxing
pub mod Desking
pub mod Acking
pub mod Lists
pub mod Adding
pub mod Boarding
