pub mod Edges
pub mod Lists
pub mod Notes
pub mod Paths
pub mod Roots
pub mod Tickets
pub mod Trees
