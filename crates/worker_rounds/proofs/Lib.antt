pub mod Through
pub mod Ticking
pub mod Going
pub mod Rounds
mod Driving
pub mod Calling
pub mod Offering
