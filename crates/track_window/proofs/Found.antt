-- What an attempt at a tuple comes to.
use Rattle.std.proofs.Common.{◌≡◌, ◌<◌, ℕ, suc, List, [], ◌∷◌, length, get_or, All, Option, None, Some, slice_get, refl, sym, ap, subst, ◌∙◌, arith}
use Rattle.std.specs.List.{AllZip}
use Rattle.std.specs.Option.{option_map_or, option_and_then}
use Rattle.tree_model.specs.bolt_ops.RowOp.{Custom, IsCustom}
use Rattle.tree_model.specs.bolt_ops.Operations.{out, exec_of}
use Rattle.tree_model.specs.bolt_ops.declared.operation.Outcome.{Outcome}
use Rattle.tree_model.specs.bolt_ops.declared.operation.Outcome.TheVariants as outcome
use Rattle.tree_model.proofs.bolt_ops.Lengths.{out-within}
use Rattle.tree_model.proofs.bolt_ops.Outcomes.{rows_from_exec_of}
use Rattle.tree_model.specs.storm_values.declared.value.Value.{Value}
use Rattle.tree_model.specs.storm_values.Rows.{IsRow}
use Rattle.tree_model.specs.topology_plan.declared.parts.Body.{Body}
use Rattle.tree_model.specs.topology_plan.declared.parts.Body.TheVariants.{Bolt}
use Rattle.tree_model.specs.topology_plan.declared.parts.Component.{Component}
use Rattle.tree_model.specs.topology_plan.declared.parts.Op.{Op}
use Rattle.tree_model.specs.topology_plan.declared.parts.Origin.TheVariants as origin
use Rattle.tree_model.specs.topology_plan.Topology.{Topology}
use Rattle.tree_model.specs.topology_plan.Wired.{IsComponent, IsFed, width_of, width_to}
use Rattle.tree_model.specs.tuple_tickets.Trees.{goes, mute}
use Rattle.tree_model.specs.declared.messages.Tuple.{Tuple}
use Rattle.tree_model.specs.Courses.{course_at, course_by, course_of}
use Rattle.tree_model.specs.Trees.{kids, kids_of, rows_by, write_by, write_of}
use Rattle.tuple_account.specs.Issued.{node_of}
use Rattle.track_window.specs.declared.job.Found.TheVariants as found
use Rattle.track_window.specs.Jobs.{IsFound}

module _ (t : Topology) (custom : Custom) (tuple : Tuple) (component : Component) (op : Op) (there : slice_get t.components tuple.component ≡ Some component) (bolt : component.body ≡ Bolt op) where
  course_is : course_at t custom tuple.root.attempt (node_of tuple) ≡ course_of (exec_of custom op tuple.row tuple.root.attempt)
  course_is =
      ap (λ (o : Option Component). option_map_or (λ (c : Component). course_by custom c.body tuple.row tuple.root.attempt) o mute) there
      ∙ ap (λ (b : Body). course_by custom b tuple.row tuple.root.attempt) bolt

  write_is : write_of t (node_of tuple) ≡ None
  write_is =
      ap (option_and_then (λ (c : Component). write_by tuple.component c.tasks c.body tuple.row)) there
      ∙ ap (λ (b : Body). write_by tuple.component component.tasks b tuple.row) bolt

  kids_are : kids_of t custom (node_of tuple) ≡ kids t (origin.Component tuple.component) (out custom op tuple.row)
  kids_are =
      ap (λ (o : Option Component). option_map_or (λ (c : Component). kids t (origin.Component tuple.component) (rows_by custom c.body tuple.row)) o []) there
      ∙ ap (λ (b : Body). kids t (origin.Component tuple.component) (rows_by custom b tuple.row)) bolt

  pub rows_found : (rows : List (List Value)) → IsCustom custom → IsComponent t tuple.component component → IsRow (width_to t tuple.component) tuple.row
      → exec_of custom op tuple.row tuple.root.attempt ≡ outcome.Rows rows → IsFound t custom tuple (found.Rows rows)
  rows_found rows keeps fits row is =
      let made = rows_from_exec_of custom op tuple.row tuple.root.attempt rows is in
      let fed : IsFed t tuple.component (width_to t tuple.component) (Bolt op) component.fields = subst (λ (b : Body). IsFed t tuple.component (width_to t tuple.component) b component.fields) bolt fits.fed in
      let wide : width_of t (origin.Component tuple.component) ≡ length component.fields = ap (λ (o : Option Component). length (option_map_or (λ (d : Component). d.fields) o [])) there in
      let within : All (IsRow (width_of t (origin.Component tuple.component))) rows = rw (made, wide, fed.1) (out-within custom op (width_to t tuple.component) tuple.row keeps fed.0 row) in
      (course_is ∙ ap course_of is, write_is, kids_are ∙ ap (kids t (origin.Component tuple.component)) (sym made), within)

-- from places to pairs
pub zipped : {X : Type 0} (R : X → X → Type 0) (xs ys : List X) → length ys ≡ length xs → ((i : ℕ) (d : X) → i < length xs → R (get_or xs i d) (get_or ys i d)) → AllZip R xs ys
zipped R [] [] many each = tt
zipped R [] (y ∷ ys) many each = absurd (omega arith)
zipped R (x ∷ xs) [] many each = absurd (omega arith)
zipped R (x ∷ xs) (y ∷ ys) many each = (each 0 x (omega arith), zipped R xs ys (omega arith) (λ i d below. each (suc i) d (omega arith)))
