pub mod Places
pub mod Executing
