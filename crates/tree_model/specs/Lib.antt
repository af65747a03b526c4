pub mod Courses
pub mod Inside
pub mod Lists
pub mod Packs
pub mod Paths
pub mod Tables
pub mod Trees
pub use Rattle.bolt_ops.specs as bolt_ops
pub use Rattle.counted_items.specs as counted_items
pub use Rattle.storm_values.specs as storm_values
pub use Rattle.topology_plan.specs as topology_plan
pub use Rattle.tuple_tickets.specs as tuple_tickets
