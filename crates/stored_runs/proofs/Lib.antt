pub mod Lent
pub mod Faults
pub mod Prefixes
pub mod Finished
pub mod Comings
pub mod Moved
pub mod Resuming
