mod Weighed
mod Keeping
mod Whole
mod Steps
mod Splitting
