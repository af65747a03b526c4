pub mod Joining
mod Keyed
mod Loops
mod Running
mod Pieces
