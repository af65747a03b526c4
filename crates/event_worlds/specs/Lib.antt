pub mod Worlds
pub mod Orderly
pub mod Accounted
pub mod Added
pub mod Rounds
pub mod Beside
pub use Rattle.commit_order.specs.acker_core as acker_core
pub use Rattle.commit_order.specs.attempt_fates as attempt_fates
pub use Rattle.commit_order.specs.bolt_ops as bolt_ops
pub use Rattle.bolt_task.specs as bolt_task
pub use Rattle.commit_order.specs as commit_order
pub use Rattle.commit_order.specs.commit_turns as commit_turns
pub use Rattle.commit_order.specs.counted_items as counted_items
pub use Rattle.groupings.specs as groupings
pub use Rattle.commit_order.specs.output_collector as output_collector
pub use Rattle.commit_order.specs.rotating_ledger as rotating_ledger
pub use Rattle.commit_order.specs.record_offers as record_offers
pub use Rattle.commit_order.specs.record_spans as record_spans
pub use Rattle.commit_order.specs.replay_pending as replay_pending
pub use Rattle.commit_order.specs.state_parts as state_parts
pub use Rattle.commit_order.specs.storm_ids as storm_ids
pub use Rattle.commit_order.specs.storm_values as storm_values
pub use Rattle.commit_order.specs.taken_records as taken_records
pub use Rattle.commit_order.specs.topology_plan as topology_plan
pub use Rattle.commit_order.specs.tree_model as tree_model
pub use Rattle.commit_order.specs.tuple_account as tuple_account
pub use Rattle.commit_order.specs.tuple_tickets as tuple_tickets
