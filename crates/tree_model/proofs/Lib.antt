mod Depth
mod Folding
mod Lists
mod Loops
mod Maps
pub mod Packing
mod Quoted
pub mod Reading
mod Single
mod TablesSoFar
pub mod Walks
pub mod TreePaths
mod Within
mod Counts
