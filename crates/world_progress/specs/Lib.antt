pub mod Young
pub mod Lasting
pub mod Doing
pub mod Running
pub mod Rounding
