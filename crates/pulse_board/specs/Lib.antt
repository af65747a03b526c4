pub mod Books
pub mod Rule
pub mod Seats
pub mod Steps
