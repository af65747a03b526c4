pub mod Gathered
pub mod Lists
pub mod Parsed
pub mod Reading
