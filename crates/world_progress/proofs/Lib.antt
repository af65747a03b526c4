mod Lists
pub mod Doing
pub mod Answering
pub mod Turning
pub mod Seats
pub mod Lasting
pub mod Running
pub mod Phases
pub mod Resting
mod Tallying
mod Sources
mod Records
pub mod Bounding
pub mod Finishing
pub mod Rounding
