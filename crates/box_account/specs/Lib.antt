pub mod Taken
pub mod Inboxes
pub mod Hearing
pub mod Telling
