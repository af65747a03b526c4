-- The names that the definitions cite, passed on from one place. Declares nothing.
pub use Rattle.std.specs.List.{list_any, range_with_len, enumerate_from, flat_map, Contains, filter_map, find}
pub use Rattle.std.specs.Option.{option_map_or, option_to_list, option_copied}
pub use Rattle.std.specs.Str.{bytes_eq}
pub use Rattle.std.specs.Cmp.Lexicographic.{pointwise}
pub use Rattle.storm_values.specs.Json.{json_of}
pub use Rattle.storm_values.specs.Limits.{most_topology_bytes, most_fields, most_bolts, most_tasks_in_all, most_weight}
pub use Rattle.storm_values.specs.Lines.{first_some}
pub use Rattle.topology_form.specs.Prelude.{Data, view, Kind, Transactional, Opaque}
pub use Rattle.topology_form.specs.declared.fault.TopoFault.{TopoFault}
pub use Rattle.topology_form.specs.declared.fault.TopoFault.TheVariants.{TooLong, NotJson, WrongKind, Twice, NoSource, Cycle, FieldsDiffer, NoField, NotExactlyOnce, Weight}
pub use Rattle.topology_form.specs.declared.parts.{BodyPart.BodyPart, ComponentPart.ComponentPart, FileParts.FileParts, GroupingPart.GroupingPart, Input.Input}
pub use Rattle.topology_form.specs.declared.operations.Operation.{Operation}
pub use Rattle.topology_form.specs.declared.parts.BodyPart.TheVariants.{Bolt, State}
pub use Rattle.topology_form.specs.Format.{form_fault, parts_said}
pub use Rattle.topology_form.specs.Ranges.{IsInRange, components_of}
pub use Rattle.topology_form.specs.Reading.{Checks, range_fault}
pub use Rattle.topology_graph.specs.Graph.{feeds_at, value_of, values_of, Rule, fed, fed_by, read, IsThere, IsClosed, by_depth, IsSettled}
pub use Rattle.topology_graph.specs.declared.values.Feed.{Feed}
pub use Rattle.topology_plan.specs.Topology.{Topology, tasks_in_all, weight_of, depth_of}
pub use Rattle.topology_plan.specs.{Valid.IsBetween, Valid.IsValid, Wired.IsWired}
pub use Rattle.topology_plan.specs.Functions.{shape}
pub use Rattle.topology_plan.specs.declared.function.Leaves.{Leaves}
pub use Rattle.topology_plan.specs.declared.parts.{Origin.Origin}
