pub mod Desks
pub mod Turns
pub mod Kept
pub mod Account
pub mod Outcomes
