mod Ending
mod Filling
mod Merging
