pub mod Going
mod Rows
mod Handed
mod Few
mod Keeping
mod Looping
mod Starting
mod Ending
mod Beginning
