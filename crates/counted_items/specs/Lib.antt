pub mod Codes
pub mod Weights
