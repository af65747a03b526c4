pub mod Aborting
mod Accounting
mod Beginning
mod Booking
mod Closing
mod Counting
mod Dropping
mod Ends
mod Examples
mod Finishing
mod Fitting
mod Going
mod Holding
mod Keeping
mod LawLemmas
pub mod Lists
mod Lowest
mod Ordered
mod Passing
mod Rows
mod Stepping
mod Tallies
mod Tallying
mod Telling
mod Ticking
mod Turning
pub mod Carrying
