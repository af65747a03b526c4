pub mod Offices
pub mod Orders
pub mod Follows
pub use Rattle.tuple_account.specs.acker_core as acker_core
pub use Rattle.attempt_fates.specs as attempt_fates
pub use Rattle.tuple_account.specs.bolt_ops as bolt_ops
pub use Rattle.commit_turns.specs as commit_turns
pub use Rattle.tuple_account.specs.counted_items as counted_items
pub use Rattle.tuple_account.specs.message_lists as message_lists
pub use Rattle.output_collector.specs as output_collector
pub use Rattle.replay_pending.specs as replay_pending
pub use Rattle.tuple_account.specs.rotating_ledger as rotating_ledger
pub use Rattle.record_offers.specs as record_offers
pub use Rattle.record_spans.specs as record_spans
pub use Rattle.state_parts.specs as state_parts
pub use Rattle.storm_ids.specs as storm_ids
pub use Rattle.tuple_account.specs.storm_values as storm_values
pub use Rattle.tuple_account.specs.topology_plan as topology_plan
pub use Rattle.tuple_account.specs.tree_model as tree_model
pub use Rattle.taken_records.specs as taken_records
pub use Rattle.tuple_account.specs as tuple_account
pub use Rattle.tuple_account.specs.tuple_tickets as tuple_tickets
