pub mod Makers
pub mod StoredRuns
pub mod Closing
pub mod Laws
pub mod Resuming
pub mod OverParts
