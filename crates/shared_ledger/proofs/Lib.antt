pub mod Xored
mod Marked
mod Seen
mod Keeping
mod Whole
mod Steps
mod Splitting
