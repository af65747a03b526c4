pub mod Calls
pub mod Noted
pub mod Stands
