-- The names that the definitions cite, passed on from one place. Declares nothing.
pub use Rattle.serde_json.specs.Data.{string, Data, Members, Items, no_items, item, no_members, member}
pub use Rattle.serde_json.specs.Events.{items_len}
pub use Rattle.serde_json.specs.Find.{get_member, as_str, as_number, as_array, as_object, as_i64}
pub use Rattle.serde_json.specs.View.{members_view, view, items_view}
pub use Rattle.storm_values.specs.Limits.{most_topology_bytes, most_weight, most_fields, most_constant_bytes, most_batch, most_below, most_tasks, most_bolt_inputs, most_state_inputs, most_bolts, most_states, most_ackers, most_pending, least_buckets, most_buckets, most_attempts}
pub use Rattle.storm_values.specs.declared.value.Value.{Value}
pub use Rattle.topology_form.specs.declared.fault.TopoFault.{TopoFault}
pub use Rattle.topology_form.specs.declared.fault.TopoFault.TheVariants.{Missing, WrongKind, UnknownName, OutOfRange, Memory}
pub use Rattle.topology_form.specs.declared.parts.{BodyPart.BodyPart, ComponentPart.ComponentPart, FileParts.FileParts, GroupingPart.GroupingPart, Input.Input, SpoutPart.SpoutPart}
pub use Rattle.topology_form.specs.declared.parts.BodyPart.TheVariants.{Bolt, State}
pub use Rattle.topology_plan.specs.Limits.{most_partitions}
pub use Rattle.topology_plan.specs.Texts.{is_name, is_name_byte}
unfoldable pub use Rattle.topology_plan.specs.Texts.{IsName}
pub use Rattle.topology_plan.specs.declared.parts.{Fold.Fold, Kind.Kind}
pub use Rattle.topology_plan.specs.declared.parts.Fold.TheVariants.{Count, Sum, Last, Max}
pub use Rattle.topology_plan.specs.declared.parts.Kind.TheVariants.{Transactional, Opaque}
