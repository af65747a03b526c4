pub mod Merging
pub mod Pieces
