-- The names that the proofs cite, passed on from one place. Declares nothing.
pub use Rattle.std.proofs.lemmas.Bool.{true≢false, cases_Bool, cond-true, cond-false, both_ways, eq-eqb, not-false, cases_order, cases_lt, cases_eq, false≢true, or_cases, or_left, or_right, false_from_ne_true, and_from, eqb-true, le-leb, le-ltb, and_parts, ne_eqb, eqb-false, ltb-false, leb-true}
pub use Rattle.std.proofs.lemmas.Iterator.{YieldsList-from_slice}
pub use Rattle.std.proofs.lemmas.List.{length-map, take_all, length-take-le, get_or_past, take_more, map_push, drop_more, map-id, map-append, append-nil, get_or-map, map-set, length-set, length-replicate, get_or-replicate, get_or-set_same, get_or-set_other}
pub use Rattle.std.proofs.lemmas.List.Elements.{All-nil, All-cons, All-append, All-head, All-tail, filter-append, filter_map-append, All-weaker}
pub use Rattle.std.proofs.lemmas.List.Folds.{list_any-append, list_any_none}
pub use Rattle.std.proofs.lemmas.List.FromFn.{get_or-map-range_with_len, length-map-range_with_len, length-enumerate_from, length-range_with_len, fill_by_all, get_or-enumerate_from}
pub use Rattle.std.proofs.lemmas.List.Sums.{sum_by-cons, count_by-le-length, sum_by-le-sum_by, fold_push, sum_by-le, sum_by-take-le, sum_by_more, sum-map}
pub use Rattle.std.proofs.lemmas.Option.{none-some, get_or_from_slice_get, slice_get_past, same_Some, slice_get_within, slice_get-map}
pub use Rattle.std.proofs.lemmas.Result.{err_from_is_err_and, IfOk-weaker}
pub use Rattle.std.proofs.lemmas.Simd.{map-map}
pub use Rattle.std.specs.Borrow.{Bor}
pub use Rattle.std.specs.Cmp.Lexicographic.{pointwise, pointwise_decides, bytes_decides}
pub use Rattle.std.specs.List.{cons_option, position_or_len, count_by}
pub use Rattle.std.specs.Option.{option_or}
pub use Rattle.std.specs.Str.{IsUtf8, is_utf8}
pub use Rattle.serde_json.specs.Data.{Data}
unfoldable pub use Rattle.storm_values.specs.Json.{json_of}
pub use Rattle.topology_form.proofs.InRange.{in_range}
pub use Rattle.topology_form.specs.declared.fault.TopoFault.TheVariants.{OutOfRange}
pub use Rattle.topology_form.specs.Operations.{HasInto, IsOperationInRange}
pub use Rattle.topology_form.specs.Ranges.{IsBodyInRange, IsComponentInRange, is_bolt, IsGroupingInRange, HasAmount as SaysAmount}
pub use Rattle.topology_graph.proofs.ValueLemmas.{depth_at, depth_at_within, settled_by_rank, value_settled, depth_in_within, greatest_within}
pub use Rattle.topology_graph.specs.Graph.{value_in, values_of, IsThere, depth_rule, tuples_rule, at_depth}
unfoldable pub use Rattle.topology_graph.specs.Graph.{value_of, by_depth}
pub use Rattle.topology_plan.specs.Topology.{tasks_of, copies_by, copies_of, origins, inputs_of, subs_of, greatest, depth_within, weight_end, ended_sum, tuples_within}
unfoldable pub use Rattle.topology_plan.specs.Topology.{depth_of as plan_depth, weight_of as plan_weight}
pub use Rattle.topology_plan.proofs.Functions.{AreSomeRead, IsChoice, IsShape, shape_fits}
pub use Rattle.topology_plan.specs.Functions.{first_field, AreRead, width_left, AreLeftOnce}
pub use Rattle.topology_plan.specs.Valid.{IsTarget, IsRanked}
pub use Rattle.topology_plan.specs.Wired.{IsWired, fields_of as plan_fields, width_of, AreWithin, IsRouteOf, IsFrom, fields_to as plan_fields_to, IsFed, width_after, IsWithin, HasAmount, IsComponent, IsPlaced, IsLaidOut, MayFollowOpaque}
pub use Rattle.topology_plan.specs.declared.parts.Kind.{Kind}
pub use Rattle.topology_plan.specs.declared.parts.Kind.TheVariants.{Transactional, Opaque}
pub use Rattle.topology_plan.specs.declared.parts.Sub.{Sub}
pub use Rattle.topology_reader.specs.FirstFault.{IsFilePlan}
unfoldable pub use Rattle.topology_reader.specs.FirstFault.{first_fault}
pub use Rattle.topology_reader.specs.FirstFault.{is_among, size_fault, first_again, again_fault, key_of, own_key, projected, component_twice, twice_fault, nameless_fault, source_fault, cycle_fault, differ_fault, field_fault, direct_fault, input_fault, fields_read, read_left, one_more_fault, more_fault, added_fault, component_fault, fields_fault, is_route, chooses, is_transactional, keeps_exact, replay_fault}
unfoldable pub use Rattle.topology_reader.specs.FirstFault.{meaning_fault}
pub use Rattle.topology_reader.specs.Planned.{planned_subs, planned_component, is_origin, planned_grouping, subs_of_component, number_of, numbers_of, planned_operation, planned_body, route_field, first_task_of}
unfoldable pub use Rattle.topology_reader.specs.Planned.{plan_of}
pub use Rattle.topology_reader.specs.Prelude.{range_fault, most_fields, most_tasks_in_all, most_weight, first_some, FileParts, TopoFault, IsValid, IsInRange, Topology, tasks_in_all, range_with_len, list_any, bytes_eq, Origin, Twice, NoSource, NoField, FieldsDiffer, Input, Operation, shape, Leaves, BodyPart, Bolt, State, ComponentPart, components_of, IsBetween, feeds_at, Feed, Cycle, TooLong, option_map_or, fed, IsClosed, IsSettled, filter_map, flat_map, enumerate_from, Contains, WrongKind, NotExactlyOnce, Weight, GroupingPart}
pub use Rattle.topology_reader.specs.Wiring.{IsPath, IsPathThrough}
pub use Rattle.topology_reader.specs.Steps.{IsMade, has, AreReached, led, place_in, with_sub, with_inputs, items_by}
pub use Rattle.topology_reader.specs.ValidFile.{IsValidFile, HasFields, IsValidInput, IsValidComponent, IsNumbered}
pub use Rattle.topology_reader.specs.Wiring.{component_names, name_at, source_of, inputs_by_component, inputs_at, fields_left, fields_after, fields_to, body_of, graph_of, first_of, fields_rule, is_component, feeds, component_at, copies_said, reaches_over, sources_among, feed_of}
unfoldable pub use Rattle.topology_reader.specs.Wiring.{fields_of, reaches}
pub use Rattle.topology_reader.proofs.Shorthands.{IsSource, AreDistinct, tasks_by_component, with_input, component_count, bolt_names, place_of, sources_at, feeds_of, field_table, is_from, value_fault}
