pub mod Script
pub mod ChaCha
