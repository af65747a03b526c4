pub mod Ends
pub mod Files
pub mod Outside
pub mod Reports
pub mod Runs
pub mod Schedules
pub mod Statuses
pub mod Texts
pub mod steps
pub use Rattle.run_report.specs as run_report
pub use Rattle.schedule_core.specs as schedule_core
pub use Rattle.stored_runs.specs as stored_runs
