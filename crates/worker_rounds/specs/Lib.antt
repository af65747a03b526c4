pub mod Running
pub mod Laws
pub use Rattle.batch_commits.specs as batch_commits
pub use Rattle.schedule_core.specs as schedule_core
pub use Rattle.worker_turns.specs as worker_turns
