pub mod Says
pub mod Outboxes
pub mod Works
pub mod Desks
pub mod Ackers
pub mod Crews
pub mod Workers
