pub mod Copies
pub mod First
