pub mod Xors
pub mod Marking
pub mod Books
pub mod Rule
pub mod Seats
pub mod Steps
