-- Rows of a plan: each node's is within limits and as wide as its component takes, and where its
-- tuples go.
use Rattle.std.proofs.Common.{◌≡◌, ℕ, zero, suc, ◌≤◌, List, [], ◌∷◌, length, map, take, replicate, sum, sum_by, All, Option, Some, None, IfSome, slice_get, get_or, sym, subst, refl, ap, ◌∙◌, mod-lt, arith, ◌-◌}
use Rattle.std.specs.List.{AllByRecursion}
use Rattle.std.specs.Option.{option_map_or}
use Rattle.std.proofs.lemmas.List.{take-map}
use Rattle.std.proofs.lemmas.List.Elements.{recursion_from_All, All-from_recursion, All-nil, All-take, All-drop}
use Rattle.std.proofs.lemmas.List.Sums.{sum-map, sum_by_more_le}
use Rattle.std.proofs.lemmas.Option.{get_or_from_slice_get}
use Rattle.commit_order.specs.bolt_ops.RowOp.{Custom, IsCustom}
use Rattle.commit_order.specs.bolt_ops.declared.operation.Outcome.{Outcome}
use Rattle.commit_order.specs.bolt_ops.declared.operation.Outcome.TheVariants as outcome
use Rattle.commit_order.proofs.bolt_ops.Lengths.{out-within}
use Rattle.commit_order.proofs.bolt_ops.Outcomes.{rows_from_exec_of}
use Rattle.bolt_task.specs.Executing.{answered}
use Rattle.commit_order.specs.commit_turns.Account.{rows_at}
use Rattle.commit_order.proofs.counted_items.Each.{each-flat_map, each-weaker, each-any}
use Rattle.groupings.specs.declared.lane.Lane.{Lane}
use Rattle.groupings.specs.Allowed.{IsLane}
use Rattle.groupings.specs.Routing.{first_task_of, lane_of, lanes_of}
use Rattle.commit_order.specs.output_collector.Outlets.{AreLanesOf, tasks_for}
use Rattle.commit_order.proofs.output_collector.Lanes.{at_place}
use Rattle.commit_order.proofs.output_collector.Targets.{go_to}
use Rattle.commit_order.specs.storm_values.declared.value.Root.{Root}
use Rattle.commit_order.specs.storm_values.declared.value.Value.{Value}
use Rattle.commit_order.specs.storm_values.Rows.{IsRow}
use Rattle.commit_order.specs.topology_plan.declared.parts.Body.{Body}
use Rattle.commit_order.specs.topology_plan.declared.parts.Body.TheVariants.{Bolt, State}
use Rattle.commit_order.specs.topology_plan.declared.parts.Component.{Component}
use Rattle.commit_order.specs.topology_plan.declared.parts.Origin.{Origin}
use Rattle.commit_order.specs.topology_plan.declared.parts.Origin.TheVariants as origin
use Rattle.commit_order.specs.topology_plan.declared.parts.Sub.{Sub}
use Rattle.commit_order.specs.topology_plan.Topology.{Topology, copies_of, subs_of, tasks_of}
use Rattle.commit_order.specs.topology_plan.Valid.{IsTarget, IsValid}
use Rattle.commit_order.specs.topology_plan.Wired.{IsAsWide, IsComponent, IsFed, IsWired, width_of, width_to}
use Rattle.commit_order.proofs.topology_plan.Widths.{as_wide}
use Rattle.commit_order.specs.tree_model.Courses.{course_by, course_of}
use Rattle.commit_order.specs.tree_model.Trees.{Node, copies_at, exec_by, kids, kids_by, kids_of, rows_by}
use Rattle.commit_order.specs.taken_records.Cuts.{Cut}
use Rattle.commit_order.specs.tuple_account.Histories.{GoTo}
use Rattle.commit_order.specs.tuple_account.Issued.{tuples_from}
use Rattle.commit_order.specs.tuple_tickets.Tickets.{made_by}
use Rattle.commit_order.specs.tuple_tickets.Trees.{mute}
use Rattle.commit_order.specs.attempt_fates.Fates.{record_at}
use Rattle.commit_order.specs.record_spans.declared.span.Span.{Span}
use Rattle.commit_order.specs.record_spans.Spans.{records_of}

-- ---- nodes with good rows

-- the node's row is within limits and as wide as its component takes
abbrev pub HasRow : Topology → Node → Type 0
HasRow t node = IsRow (width_to t node.component) node.row

each-replicate : {X : Type 0} (P : X → Type 0) (n : ℕ) (x : X) → P x → AllByRecursion P (replicate n x)
each-replicate P zero x p = tt
each-replicate P (suc n) x p = (p, each-replicate P n x p)

module _ (t : Topology) (valid : IsValid t) (wired : IsWired t) where
  kids_of_row : (from : Origin) (row : List Value) → IsRow (width_of t from) row → AllByRecursion (HasRow t) (kids_by t from row)
  kids_of_row from row is =
      each-flat_map (HasRow t) (copies_at t row) (subs_of t from)
      (each-weaker (IsAsWide t from) (λ (sub : Sub). AllByRecursion (HasRow t) (copies_at t row sub))
      (λ sub wide. each-replicate (HasRow t) (copies_of t sub) (record { component = sub.to; row = row }) (subst (λ n. IsRow n row) (sym wide) is))
      (subs_of t from) (recursion_from_All (IsAsWide t from) (subs_of t from) (as_wide t valid wired from)))

  -- what rows of a source make
  pub kids_have_rows : (from : Origin) (rows : List (List Value)) → AllByRecursion (IsRow (width_of t from)) rows → AllByRecursion (HasRow t) (kids t from rows)
  kids_have_rows from rows all =
      each-flat_map (HasRow t) (kids_by t from) rows
      (each-weaker (IsRow (width_of t from)) (λ row. AllByRecursion (HasRow t) (kids_by t from row)) (λ row is. kids_of_row from row is) rows all)

  made_rows : (custom : Custom) → IsCustom custom → (c : ℕ) (body : Body) (fields : List (List ℕ)) (row : List Value) → IsFed t c (width_to t c) body fields → IsRow (width_to t c) row
      → All (IsRow (length fields)) (rows_by custom body row)
  made_rows custom keeps c (Bolt op) fields row fed is = rw fed.1 (out-within custom op (width_to t c) row keeps fed.0 is)
  made_rows custom keeps c (State spec) fields row fed is = All-nil (IsRow (length fields))

  by_component : (custom : Custom) → IsCustom custom → (node : Node) (found : Option Component) → slice_get t.components node.component ≡ found → HasRow t node
      → AllByRecursion (HasRow t) (option_map_or (λ (c : Component). kids t (origin.Component node.component) (rows_by custom c.body node.row)) found [])
  by_component custom keeps node None is has = tt
  by_component custom keeps node (Some component) is has =
      let fits : IsComponent t node.component component = subst (λ o. IfSome o (IsComponent t node.component)) is (wired.components node.component) in
      let made = made_rows custom keeps node.component component.body component.fields node.row fits.fed has in
      let wide : width_of t (origin.Component node.component) ≡ length component.fields = ap (λ o. length (option_map_or (λ (c : Component). c.fields) o [])) is in
      kids_have_rows (origin.Component node.component) (rows_by custom component.body node.row)
      (recursion_from_All (IsRow (width_of t (origin.Component node.component))) _ (rw wide made))

  -- the children of a node
  pub children_have_rows : (custom : Custom) → IsCustom custom → (node : Node) → HasRow t node → AllByRecursion (HasRow t) (kids_of t custom node)
  children_have_rows custom keeps node has = by_component custom keeps node (slice_get t.components node.component) refl has

  -- the first nodes of an attempt
  pub spans_have_rows : (cut : Cut) → All (IsRow (width_of t origin.Spout)) cut.records → (spans : List Span) → AllByRecursion (HasRow t) (kids t origin.Spout (rows_at cut spans))
  spans_have_rows cut all spans =
      kids_have_rows origin.Spout (rows_at cut spans)
      (each-flat_map (IsRow (width_of t origin.Spout)) (record_at cut.records) (records_of spans)
      (each-any (λ (n : ℕ). AllByRecursion (IsRow (width_of t origin.Spout)) (record_at cut.records n)) of_record (records_of spans)))
    where
      of_record : (n : ℕ) → AllByRecursion (IsRow (width_of t origin.Spout)) (record_at cut.records n)
      of_record n =
          recursion_from_All (IsRow (width_of t origin.Spout)) (record_at cut.records n)
          (All-take (IsRow (width_of t origin.Spout)) 1 _ (All-drop (IsRow (width_of t origin.Spout)) (n - 1) cut.records all))

-- ---- where the tuples of an execution go

rows_of_body : (custom : Custom) (body : Body) (row : List Value) (attempt : ℕ) (rows : List (List Value)) → exec_by custom body row attempt ≡ outcome.Rows rows → rows_by custom body row ≡ rows
rows_of_body custom (Bolt op) row attempt rows is = sym (rows_from_exec_of custom op row attempt rows is)
rows_of_body custom (State spec) row attempt rows is = cc

module _ (t : Topology) (valid : IsValid t) (wired : IsWired t) (c : ℕ) (root : Root) (path ids : List ℕ) where
  go_by_outcome : (lanes : List Lane) → AreLanesOf t (origin.Component c) lanes → All IsLane lanes → (nodes : List Node) (x : Outcome)
      → ((rows : List (List Value)) → x ≡ outcome.Rows rows → nodes ≡ kids t (origin.Component c) rows) → length ids ≡ length (made_by (course_of x) nodes)
      → GoTo t (made_by (course_of x) (tuples_from root path 0 nodes ids)) (tasks_for lanes (answered x))
  go_by_outcome lanes are each nodes (outcome.Rows rows) is enough =
      let same : nodes ≡ kids t (origin.Component c) rows = is rows refl in
      subst (λ ns. GoTo t (tuples_from root path 0 ns ids) (tasks_for lanes rows)) (sym same)
      (go_to t (origin.Component c) lanes valid wired are each root path rows ids (enough ∙ ap length same))
  go_by_outcome lanes are each nodes outcome.Fail is enough = tt
  go_by_outcome lanes are each nodes outcome.Mute is enough = tt

  -- the tuples that an attempt at a row makes in a component, if it is there
  pub go_by_component : (custom : Custom) (lanes : List Lane) → AreLanesOf t (origin.Component c) lanes → All IsLane lanes → (row : List Value) (attempt : ℕ) (found : Option Component)
      → length ids ≡ length (made_by (option_map_or (λ (d : Component). course_by custom d.body row attempt) found mute) (option_map_or (λ (d : Component). kids t (origin.Component c) (rows_by custom d.body row)) found []))
      → GoTo t (made_by (option_map_or (λ (d : Component). course_by custom d.body row attempt) found mute)
      (tuples_from root path 0 (option_map_or (λ (d : Component). kids t (origin.Component c) (rows_by custom d.body row)) found []) ids))
      (tasks_for lanes (answered (option_map_or (λ (d : Component). exec_by custom d.body row attempt) found (outcome.Rows []))))
  go_by_component custom lanes are each row attempt None enough = tt
  go_by_component custom lanes are each row attempt (Some component) enough =
      go_by_outcome lanes are each (kids t (origin.Component c) (rows_by custom component.body row)) (exec_by custom component.body row attempt)
      (λ rows is. ap (kids t (origin.Component c)) (rows_of_body custom component.body row attempt rows is)) enough

-- ---- the first lanes of a source

module _ (t : Topology) (valid : IsValid t) (wired : IsWired t) where
  first_lane : (sub : Sub) (start : ℕ) → IsTarget t sub → IsLane (lane_of t sub start)
  first_lane sub start there =
      let place = at_place t.components sub.to there in
      let component : Component = place.0 in
      let is : slice_get t.components sub.to ≡ Some component = place.1 in
      let fits : IsComponent t sub.to component = subst (λ o. IfSome o (IsComponent t sub.to)) is (wired.components sub.to) in
      let tasks : tasks_of t sub.to ≡ component.tasks = ap (λ o. option_map_or (λ (d : Component). d.tasks) o 0) is in
      let first : first_task_of t sub.to ≡ component.first_task = ap (λ o. option_map_or (λ (d : Component). d.first_task) o 0) is in
      let before : sum (take sub.to (map (λ (other : Component). other.tasks) t.components)) ≡ sum_by (λ (other : Component). other.tasks) (take sub.to t.components) =
      ap sum (take-map (λ (other : Component). other.tasks) sub.to t.components) ∙ sum-map (λ (other : Component). other.tasks) (take sub.to t.components) in
      let at : (get_or t.components sub.to component).tasks ≡ component.tasks = ap (λ (d : Component). d.tasks) (get_or_from_slice_get t.components sub.to component component is) in
      let within = sum_by_more_le (λ (other : Component). other.tasks) t.components sub.to component there in
      let some : 1 ≤ tasks_of t sub.to = omega (arith, fits.tasks.0) in
      record {
        some = some;
        few = omega (arith, valid.tasks.1, fits.first_task);
        turn = mod-lt start (omega arith);
      }

  first_lanes : (subs : List Sub) (starts : List ℕ) → AllByRecursion (IsTarget t) subs → AllByRecursion IsLane (lanes_of t subs starts)
  first_lanes [] starts all = tt
  first_lanes (sub ∷ subs) [] all = tt
  first_lanes (sub ∷ subs) (start ∷ starts) all = (first_lane sub start all.0, first_lanes subs starts all.1)

  -- lanes that begin with start words are sound
  pub first_lanes_are_sound : (from : Origin) (starts : List ℕ) → All IsLane (lanes_of t (subs_of t from) starts)
  first_lanes_are_sound from starts =
      All-from_recursion IsLane (lanes_of t (subs_of t from) starts) (first_lanes (subs_of t from) starts (recursion_from_All (IsTarget t) (subs_of t from) (valid.targets from)))
