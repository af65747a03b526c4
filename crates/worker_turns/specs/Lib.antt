pub mod Orders
pub mod Carrying
