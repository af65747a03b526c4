pub mod WorkerRuns
pub mod Going
pub mod Laws
