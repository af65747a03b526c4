pub mod Lists
pub mod Weights
pub mod Numbering
