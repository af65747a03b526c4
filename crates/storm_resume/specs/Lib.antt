pub mod Keeping
pub mod Resume
pub mod steps
pub use Rattle.kept_commits.specs as kept_commits
pub use Rattle.storm_answers.specs as storm_answers
pub use Rattle.storm_answers.specs.run_report as run_report
pub use Rattle.storm_answers.specs.schedule_core as schedule_core
pub use Rattle.storm_answers.specs.stored_runs as stored_runs
