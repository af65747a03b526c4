pub mod Routing
pub mod Allowed
