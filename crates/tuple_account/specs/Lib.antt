pub mod Issued
pub mod Accounts
pub mod Places
pub mod Histories
pub mod Moves
pub mod Parts
pub mod Sound
pub mod Drawn
pub mod Stretches
pub mod Benches
pub mod Ends
pub mod Fits
pub mod Stuck
pub use Rattle.acker_core.specs as acker_core
pub use Rattle.tree_model.specs.bolt_ops as bolt_ops
pub use Rattle.tree_model.specs.counted_items as counted_items
pub use Rattle.message_lists.specs as message_lists
pub use Rattle.rotating_ledger.specs as rotating_ledger
pub use Rattle.tree_model.specs.storm_values as storm_values
pub use Rattle.tree_model.specs.topology_plan as topology_plan
pub use Rattle.tree_model.specs as tree_model
pub use Rattle.tree_model.specs.tuple_tickets as tuple_tickets
