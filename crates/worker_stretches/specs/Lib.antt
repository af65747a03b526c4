pub mod Hands
pub mod Places
pub mod Teams
pub mod Parts
pub mod Leads
pub mod Standing
pub use Rattle.box_account.specs as box_account
pub use Rattle.box_rows.specs as box_rows
pub use Rattle.event_engine.specs as event_engine
pub use Rattle.worker_pool.specs as worker_pool
pub use Rattle.world_progress.specs as world_progress
