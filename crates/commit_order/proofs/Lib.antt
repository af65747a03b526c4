mod Steps
mod Passing
mod Ending
mod Dropping
mod Ticking
mod Copying
mod Opening
mod Turning
