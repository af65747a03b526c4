mod Below
mod ChildIds
mod Failing
pub mod OwnEntries
pub mod PathOrders
pub mod Places
pub mod Stack
pub mod StateLemmas
pub mod StepLemmas
pub mod TellLemmas
pub mod Traces
pub mod Undisturbed
pub mod Walks
