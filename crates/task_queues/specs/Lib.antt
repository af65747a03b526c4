pub mod Books
pub mod Rule
pub mod Whole
pub mod Steps
pub mod Passes
