-- What a task sends for a tuple is what the tuple's execution makes.
use Rattle.std.proofs.Common.{◌≡◌, ◌<◌, ℕ, List, [], ◌∷◌, ◌++◌, length, map, All, Option, None, Some, refl, sym, ap, subst, ◌∙◌}
use Rattle.std.specs.Prelude.{option_and_then, slice_get}
use Rattle.std.specs.Option.{option_map_or, option_to_list}
use Rattle.tuple_account.specs.bolt_ops.declared.operation.Outcome.TheVariants as outcome
use Rattle.tuple_account.specs.bolt_ops.RowOp.{Custom}
use Rattle.tuple_account.proofs.bolt_ops.Outcomes.{rows_from_exec_of}
use Rattle.tuple_account.specs.storm_values.declared.value.Value.{Value}
use Rattle.tuple_account.specs.topology_plan.declared.parts.Body.{Body}
use Rattle.tuple_account.specs.topology_plan.declared.parts.Body.TheVariants.{Bolt, State}
use Rattle.tuple_account.specs.topology_plan.declared.parts.Component.{Component}
use Rattle.tuple_account.specs.topology_plan.declared.parts.Origin.TheVariants as origin
use Rattle.tuple_account.specs.topology_plan.Topology.{Topology}
use Rattle.tuple_account.specs.topology_plan.Valid.{IsValid}
use Rattle.tuple_account.specs.topology_plan.Wired.{IsWired}
use Rattle.groupings.specs.Allowed.{IsLane}
use Rattle.tuple_account.specs.tuple_tickets.Tickets.{made_by}
use Rattle.tuple_account.specs.tuple_tickets.Trees.{goes, fails, mute}
use Rattle.tuple_account.specs.tree_model.Courses.{course_of, course_by, course_at}
use Rattle.tuple_account.specs.tree_model.declared.messages.AckMsg.TheVariants.{Done, Failed}
use Rattle.tuple_account.specs.tree_model.declared.messages.Parcel.{Parcel}
use Rattle.tuple_account.specs.tree_model.declared.messages.Tuple.{Tuple}
use Rattle.tuple_account.specs.tree_model.declared.write.Write.{Write}
use Rattle.tuple_account.specs.tree_model.Trees.{Node, exec_by, exec_at, kids, kids_of, rows_by, write_by, write_of}
use Rattle.tuple_account.specs.Issued.{Run, children_of, course_of_run, draw_from, edges_of, node_of, notes_by, tuples_from}
use Rattle.tuple_account.specs.Histories.{Execution, GoTo, IsExecution, execution_parcels, to_acker, to_tasks}
use Rattle.output_collector.specs.Outlets.{HasItsLanes, Outlet, tasks_for, tuples_for}
use Rattle.output_collector.proofs.Lanes.{at_place}
use Rattle.output_collector.proofs.Targets.{go_to}
use Rattle.bolt_task.specs.Executing.{answered, parcels_done, rows_of}

-- ---- what an attempt comes to

module _ (t : Topology) (custom : Custom) where
  course_from : (attempt : ℕ) (node : Node) → node.component < length t.components → course_at t custom attempt node ≡ course_of (exec_at t custom attempt node)
  course_from attempt node within =
      let place = at_place t.components node.component within in
      ap (λ o. option_map_or (λ (c : Component). course_by custom c.body node.row attempt) o mute) place.1
      ∙ sym (ap (λ o. course_of (option_map_or (λ (c : Component). exec_by custom c.body node.row attempt) o (outcome.Rows []))) place.1)

  rows_of_body : (body : Body) (row : List Value) (attempt : ℕ) (rows : List (List Value)) → exec_by custom body row attempt ≡ outcome.Rows rows → rows_by custom body row ≡ rows
  rows_of_body (Bolt op) row attempt rows is = sym (rows_from_exec_of custom op row attempt rows is)
  rows_of_body (State spec) row attempt rows is = cc

  kids_from : (attempt : ℕ) (node : Node) (rows : List (List Value)) → node.component < length t.components → exec_at t custom attempt node ≡ outcome.Rows rows
      → kids_of t custom node ≡ kids t (origin.Component node.component) rows
  kids_from attempt node rows within is =
      let place = at_place t.components node.component within in
      let component : Component = place.0 in
      let body : exec_by custom component.body node.row attempt ≡ outcome.Rows rows = sym (ap (λ o. option_map_or (λ (c : Component). exec_by custom c.body node.row attempt) o (outcome.Rows [])) place.1) ∙ is in
      ap (λ o. option_map_or (λ (c : Component). kids t (origin.Component node.component) (rows_by custom c.body node.row)) o []) place.1
      ∙ ap (kids t (origin.Component node.component)) (rows_of_body component.body node.row attempt rows body)

-- the parcels are an execution's, which is well made
pub record IsDone (t : Topology) (custom : Custom) (parcels : List Parcel) (e : Execution) : Type 0 where
  pub sent : parcels ≡ execution_parcels t custom e
  pub well : IsExecution t custom e

module _ (o : Outlet) (t : Topology) (custom : Custom) (tuple : Tuple) (task at : ℕ) (topology : o.topology ≡ t) (from : o.from ≡ origin.Component tuple.component) (within : tuple.component < length t.components) where
  abbrev run_with : List ℕ → Run
  run_with ids = record { tuple = tuple; ids = ids; task = task; at = at }

  abbrev pub execution_with : List ℕ → Execution
  execution_with ids = record { run = run_with ids; targets = tasks_for o.lanes (rows_of t custom tuple) }

  pub rows_done : (rows : List (List Value)) (ids : List ℕ) → exec_at t custom tuple.root.attempt (node_of tuple) ≡ outcome.Rows rows
      → IsValid o.topology → IsWired o.topology → HasItsLanes o → All IsLane o.lanes → length ids ≡ length (kids o.topology o.from rows)
      → IsDone t custom (parcels_done o task at tuple rows (option_to_list (write_of t (node_of tuple))) ids) (execution_with ids)
  rows_done rows ids is valid wired lanes each enough =
      let node = node_of tuple in
      let run = run_with ids in
      let course : course_of_run t custom run ≡ goes = course_from t custom tuple.root.attempt node within ∙ ap course_of is in
      let kids_is : kids o.topology o.from rows ≡ kids_of t custom node = (λ i. kids (topology i) (from i) rows) ∙ sym (kids_from t custom tuple.root.attempt node rows within is) in
      let children : tuples_for o tuple.root tuple.edge.path rows ids ≡ children_of t custom run =
      ap (λ ns. tuples_from tuple.root tuple.edge.path 0 ns ids) kids_is ∙ ap (λ c. made_by c (tuples_from tuple.root tuple.edge.path 0 (kids_of t custom node) ids)) (sym course) in
      let targets : tasks_for o.lanes rows ≡ tasks_for o.lanes (rows_of t custom tuple) = ap (λ x. tasks_for o.lanes (answered x)) (sym is) in
      let told : to_acker o.topology (Done (record { root = tuple.root; consumed = tuple.edge; produced = edges_of (tuples_for o tuple.root tuple.edge.path rows ids); draw = draw_from task at; writes = option_to_list (write_of t node) })) ∷ []
      ≡ map (to_acker t) (notes_by t custom run (course_of_run t custom run)) =
      (λ i. to_acker (topology i) (Done (record { root = tuple.root; consumed = tuple.edge; produced = edges_of (children i); draw = draw_from task at; writes = option_to_list (write_of t node) })) ∷ [])
      ∙ ap (λ c. map (to_acker t) (notes_by t custom run c)) (sym course) in
      let sent = go_to o.topology o.from o.lanes valid wired lanes each tuple.root tuple.edge.path rows ids enough in
      let sent_by_plan = subst (λ s. GoTo s (tuples_for o tuple.root tuple.edge.path rows ids) (tasks_for o.lanes rows)) topology sent in
      record {
        sent = (λ i. to_tasks (children i) (targets i) ++ told i);
        well = record {
          ids = enough ∙ ap length kids_is ∙ ap (λ c. length (made_by c (kids_of t custom node))) (sym course);
          sent = subst (GoTo t (children_of t custom run)) targets (subst (λ ts. GoTo t ts (tasks_for o.lanes rows)) children sent_by_plan);
        };
      }

  pub fail_done : exec_at t custom tuple.root.attempt (node_of tuple) ≡ outcome.Fail
      → IsDone t custom (to_acker t (Failed (record { root = tuple.root; path = tuple.edge.path })) ∷ []) (execution_with [])
  fail_done is =
      let node = node_of tuple in
      let run = run_with [] in
      let course : fails ≡ course_of_run t custom run = sym (course_from t custom tuple.root.attempt node within ∙ ap course_of is) in
      let made = tuples_from tuple.root tuple.edge.path 0 (kids_of t custom node) [] in
      record {
        sent = (λ i. to_tasks (made_by (course i) made) (tasks_for o.lanes (answered (sym is i))) ++ map (to_acker t) (notes_by t custom run (course i)));
        well = record {
          ids = ap (λ c. length (made_by c (kids_of t custom node))) course;
          sent = subst (λ c. GoTo t (made_by c made) (tasks_for o.lanes (rows_of t custom tuple))) course tt;
        };
      }

-- ---- a write that the acker meets at once

-- who writes is a part of a state, which makes no rows
pub writers_make_none : (t : Topology) (custom : Custom) (attempt : ℕ) (node : Node) (write : Write) → write_of t node ≡ Some write → exec_at t custom attempt node ≡ outcome.Rows []
writers_make_none t custom attempt node write is = by (slice_get t.components node.component) is
  where
    by : (at : Option Component) → option_and_then (λ (c : Component). write_by node.component c.tasks c.body node.row) at ≡ Some write
        → option_map_or (λ (c : Component). exec_by custom c.body node.row attempt) at (outcome.Rows []) ≡ outcome.Rows []
    by None same = refl
    by (Some c) same = body c.body same
      where
        body : (b : Body) → write_by node.component c.tasks b node.row ≡ Some write → exec_by custom b node.row attempt ≡ outcome.Rows []
        body (Bolt op) same = absurd (let e : None ≡ Some write = same in cc)
        body (State spec) same = refl
