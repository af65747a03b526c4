-- The rows of a tree's nodes are within limits.
use Rattle.std.proofs.Common.{◌≡◌, ℕ, List, [], ◌∷◌, length, All, Option, Some, None, IfSome, slice_get, sym, subst, refl, ap}
use Rattle.std.specs.List.{AllByRecursion}
use Rattle.std.specs.Option.{option_map_or}
use Rattle.std.proofs.lemmas.List.Elements.{recursion_from_All, All-nil}
use Rattle.std.proofs.lemmas.Option.{option_and_then_some, none-some, same_Some}
use Rattle.storm_values.specs.declared.value.Value.{Value}
use Rattle.storm_values.specs.Rows.{IsRow}
use Rattle.bolt_ops.specs.RowOp.{Custom, IsCustom}
use Rattle.bolt_ops.specs.Operations.{out}
use Rattle.bolt_ops.specs.declared.operation.Outcome.TheVariants as outcome
use Rattle.bolt_ops.proofs.Lengths.{out-within}
use Rattle.bolt_ops.proofs.Outcomes.{rows_from_exec_of}
use Rattle.topology_plan.specs.declared.parts.Body.{Body}
use Rattle.topology_plan.specs.declared.parts.Body.TheVariants.{Bolt, State}
use Rattle.topology_plan.specs.declared.parts.Component.{Component}
use Rattle.topology_plan.specs.declared.parts.Op.{Op}
use Rattle.topology_plan.specs.declared.parts.Origin.{Origin}
use Rattle.topology_plan.specs.declared.parts.Origin.TheVariants as origin
use Rattle.topology_plan.specs.Topology.{Topology, subs_of, copies_of}
use Rattle.topology_plan.specs.Valid.{IsValid}
use Rattle.topology_plan.specs.Wired.{IsWired, IsComponent, IsAsWide, IsFed, width_of, width_to}
use Rattle.topology_plan.proofs.Widths.{as_wide}
use Rattle.tree_model.specs.Trees.{Node, kids, kids_by, kids_of, copies_at, rows_by, node_from, node_at, exec_by, exec_at}
use Rattle.tree_model.proofs.Lists.{each-flat_map, each-replicate, each-weaker, each_at}

module _ (t : Topology) (custom : Custom) (valid : IsValid t) (wired : IsWired t) (keeps : IsCustom custom) where
  -- what rows of a source make
  within_kids : (from : Origin) (rows : List (List Value)) → AllByRecursion (IsRow (width_of t from)) rows → AllByRecursion (λ (node : Node). IsRow (width_to t node.component) node.row) (kids t from rows)
  within_kids from rows all =
      each-flat_map (λ (node : Node). IsRow (width_to t node.component) node.row) (kids_by t from) rows
      (each-weaker (IsRow (width_of t from)) (λ row. AllByRecursion (λ (node : Node). IsRow (width_to t node.component) node.row) (kids_by t from row))
      (λ row is. each-flat_map (λ (node : Node). IsRow (width_to t node.component) node.row) (copies_at t row) (subs_of t from)
      (each-weaker (IsAsWide t from) (λ sub. AllByRecursion (λ (node : Node). IsRow (width_to t node.component) node.row) (copies_at t row sub))
      (λ sub wide. each-replicate (λ (node : Node). IsRow (width_to t node.component) node.row) (copies_of t sub) (record { component = sub.to; row = row }) (subst (λ n. IsRow n row) (sym wide) is))
      (subs_of t from) (recursion_from_All (IsAsWide t from) (subs_of t from) (as_wide t valid wired from)))) rows all)

  made_rows : (c : ℕ) (body : Body) (fields : List (List ℕ)) (row : List Value) → IsFed t c (width_to t c) body fields → IsRow (width_to t c) row → All (IsRow (length fields)) (rows_by custom body row)
  made_rows c (Bolt op) fields row fed is = rw fed.1 (out-within custom op (width_to t c) row keeps fed.0 is)
  made_rows c (State spec) fields row fed is = All-nil (IsRow (length fields))

  by_component : (node : Node) (found : Option Component) → slice_get t.components node.component ≡ found → IsRow (width_to t node.component) node.row
      → AllByRecursion (λ (kid : Node). IsRow (width_to t kid.component) kid.row) (option_map_or (λ (c : Component). kids t (origin.Component node.component) (rows_by custom c.body node.row)) found [])
  by_component node None is within = tt
  by_component node (Some component) is within =
      let fits : IsComponent t node.component component = subst (λ o. IfSome o (IsComponent t node.component)) is (wired.components node.component) in
      let made = made_rows node.component component.body component.fields node.row fits.fed within in
      let wide : width_of t (origin.Component node.component) ≡ length component.fields = ap (λ o. length (option_map_or (λ (c : Component). c.fields) o [])) is in
      within_kids (origin.Component node.component) (rows_by custom component.body node.row)
      (recursion_from_All (IsRow (width_of t (origin.Component node.component))) _ (rw wide made))

  within_from : (node : Node) (path : List ℕ) (found : Node) → IsRow (width_to t node.component) node.row → node_from t custom node path ≡ Some found → IsRow (width_to t found.component) found.row
  within_from node [] found within is = subst (λ (n : Node). IsRow (width_to t n.component) n.row) (same_Some node found is) within
  within_from node (i ∷ path) found within is =
      option_and_then_some (λ kid. node_from t custom kid path) (slice_get (kids_of t custom node) i) found is
      (λ kid there rest. within_from kid path found (each_at (λ (n : Node). IsRow (width_to t n.component) n.row) (kids_of t custom node) i kid (by_component node (slice_get t.components node.component) refl within) there) rest)

  pub within_at : (rows : List (List Value)) (path : List ℕ) (found : Node) → All (IsRow (width_of t origin.Spout)) rows → node_at t custom rows path ≡ Some found → IsRow (width_to t found.component) found.row
  within_at rows [] found all is = absurd (none-some found is)
  within_at rows (i ∷ path) found all is =
      option_and_then_some (λ node. node_from t custom node path) (slice_get (kids t origin.Spout rows) i) found is
      (λ node there rest. within_from node path found (each_at (λ (n : Node). IsRow (width_to t n.component) n.row) (kids t origin.Spout rows) i node
      (within_kids origin.Spout rows (recursion_from_All (IsRow (width_of t origin.Spout)) rows all)) there) rest)

-- ---- one bolt's rows

pub rows_within : (t : Topology) (custom : Custom) (c : ℕ) (component : Component) (op : Op) (row : List Value) (rows : List (List Value)) → IsCustom custom
    → slice_get t.components c ≡ Some component → IsComponent t c component → component.body ≡ Bolt op → IsRow (width_to t c) row → rows ≡ out custom op row → All (IsRow (width_of t (origin.Component c))) rows
rows_within t custom c component op row rows keeps there fits bolt is made =
    let fed : IsFed t c (width_to t c) (Bolt op) component.fields = subst (λ body. IsFed t c (width_to t c) body component.fields) bolt fits.fed in
    let wide : width_of t (origin.Component c) ≡ length component.fields = ap (λ o. length (option_map_or (λ (d : Component). d.fields) o [])) there in
    rw (made, wide, fed.1) (out-within custom op (width_to t c) row keeps fed.0 is)

-- ---- the children where an attempt comes to rows

rows_of_body : (custom : Custom) (body : Body) (row : List Value) (attempt : ℕ) (rows : List (List Value)) → exec_by custom body row attempt ≡ outcome.Rows rows → rows_by custom body row ≡ rows
rows_of_body custom (Bolt op) row attempt rows is = sym (rows_from_exec_of custom op row attempt rows is)
rows_of_body custom (State spec) row attempt rows is = cc

children_by : (t : Topology) (custom : Custom) (attempt : ℕ) (node : Node) (rows : List (List Value)) (found : Option Component)
    → option_map_or (λ (c : Component). exec_by custom c.body node.row attempt) found (outcome.Rows []) ≡ outcome.Rows rows
    → option_map_or (λ (c : Component). kids t (origin.Component node.component) (rows_by custom c.body node.row)) found [] ≡ kids t (origin.Component node.component) rows
children_by t custom attempt node rows None is = let same : [] ≡ rows = cc in rw (← same) refl
children_by t custom attempt node rows (Some component) is = ap (kids t (origin.Component node.component)) (rows_of_body custom component.body node.row attempt rows is)

pub children_of_rows : (t : Topology) (custom : Custom) (attempt : ℕ) (node : Node) (rows : List (List Value)) → exec_at t custom attempt node ≡ outcome.Rows rows → kids_of t custom node ≡ kids t (origin.Component node.component) rows
children_of_rows t custom attempt node rows is = children_by t custom attempt node rows (slice_get t.components node.component) is
