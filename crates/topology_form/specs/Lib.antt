pub mod Prelude
pub mod Ranges
pub mod Faults
pub mod Operations
pub mod Format
pub mod Reading
