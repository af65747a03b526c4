pub mod Check
pub mod Load
pub mod Plain
pub mod Replay
pub mod Run
pub mod Storm
pub mod Track
pub mod steps
pub use Rattle.storm_resume.specs.storm_answers as storm_answers
pub use Rattle.storm_resume.specs.stored_runs as stored_runs
