pub mod Draws
pub mod Outlets
pub mod Collectors
pub mod Sending
