pub mod Keeping
pub mod Drives
mod Quiet
pub mod Following
pub mod Coordinating
pub mod Resting
mod Boosting
mod Looping
mod FatesOfRuns
pub mod TicksOfRuns
pub mod Going
pub mod Telling
pub mod Ending
pub mod Rounding
mod RunByRounds
