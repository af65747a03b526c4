pub mod Layout
pub mod Commits
pub mod Standing
