-- No path down a tuple tree has more nodes than there are components.
use Rattle.std.proofs.Common.{◌≡◌, ℕ, ◌+◌, ◌<◌, ◌≤◌, false, List, [], ◌∷◌, length, slice_get, Some, None, eqb, ap, arith}
use Rattle.std.proofs.lemmas.Bool.{ne_eqb}
use Rattle.std.proofs.lemmas.List.Elements.{recursion_from_All}
use Rattle.std.proofs.lemmas.Map.Steps.{length-le_from_distinct_below}
use Rattle.std.proofs.lemmas.Option.{option_and_then_some}
use Rattle.std.specs.List.{AllByRecursion, IsDistinct}
use Rattle.std.specs.Option.{option_map_or}
use Rattle.storm_values.specs.declared.value.Value.{Value}
use Rattle.bolt_ops.specs.RowOp.{Custom}
use Rattle.topology_plan.specs.declared.parts.Component.{Component}
use Rattle.topology_plan.specs.declared.parts.Origin.{Origin}
use Rattle.topology_plan.specs.declared.parts.Origin.TheVariants as origin
use Rattle.topology_plan.specs.declared.parts.Sub.{Sub}
use Rattle.topology_plan.specs.Topology.{Topology, subs_of, copies_of}
use Rattle.topology_plan.specs.Valid.{IsValid, IsTarget}
use Rattle.tree_model.specs.Trees.{Node, kids, kids_by, kids_of, copies_at, rows_by, node_from}
use Rattle.tree_model.proofs.Lists.{each-flat_map, each-replicate, each-any, each_at, each-weaker, each-found}

module _ (t : Topology) (P : ℕ → Type 0) where
  -- what holds of the consumers of a source holds of the components of its nodes
  pub each-kids : (from : Origin) → AllByRecursion (λ (sub : Sub). P sub.to) (subs_of t from) → (rows : List (List Value)) → AllByRecursion (λ (kid : Node). P kid.component) (kids t from rows)
  each-kids from all rows =
      each-flat_map (λ (kid : Node). P kid.component) (kids_by t from) rows
      (each-any (λ row. AllByRecursion (λ (kid : Node). P kid.component) (kids_by t from row))
      (λ row. each-flat_map (λ (kid : Node). P kid.component) (copies_at t row) (subs_of t from)
      (each-weaker (λ (sub : Sub). P sub.to) (λ sub. AllByRecursion (λ (kid : Node). P kid.component) (copies_at t row sub))
      (λ sub p. each-replicate (λ (kid : Node). P kid.component) (copies_of t sub) (record { component = sub.to; row = row }) p) (subs_of t from) all)) rows)

  pub each-kids_of : (custom : Custom) (node : Node) → AllByRecursion (λ (sub : Sub). P sub.to) (subs_of t (origin.Component node.component)) → AllByRecursion (λ (kid : Node). P kid.component) (kids_of t custom node)
  each-kids_of custom node all =
      elim (slice_get t.components node.component) as (λ o. AllByRecursion (λ (kid : Node). P kid.component) (option_map_or (λ (c : Component). kids t (origin.Component node.component) (rows_by custom c.body node.row)) o [])) [
        | None ↦ tt
        | Some component ↦ each-kids (origin.Component node.component) all (rows_by custom component.body node.row)
      ]

-- the components along a path down, from the first
record IsTrail (rank : ℕ → ℕ) (first top : ℕ) (path : List ℕ) (components : List ℕ) : Type 0 where
  above : AllByRecursion (λ c. rank first ≤ rank c) components
  below : AllByRecursion (λ c. c < top) components
  distinct : IsDistinct eqb components
  long : length components ≡ length path + 1

trail-nil : (rank : ℕ → ℕ) (first top : ℕ) → first < top → IsTrail rank first top [] (first ∷ [])
unfolding IsDistinct
trail-nil rank first top within = record { above = (omega arith, tt); below = (within, tt); distinct = (tt, tt); long = omega arith }

trail-cons : (rank : ℕ → ℕ) (first next top i : ℕ) (path components : List ℕ) → first < top → rank first < rank next → IsTrail rank next top path components → IsTrail rank first top (i ∷ path) (first ∷ components)
unfolding IsDistinct
trail-cons rank first next top i path components within grows trail = record {
  above = (omega arith, each-weaker (λ c. rank next ≤ rank c) (λ c. rank first ≤ rank c) (λ c h. omega arith) components trail.above);
  below = (within, trail.below);
  distinct = (each-weaker (λ c. rank next ≤ rank c) (λ c. eqb first c ≡ false) (λ c h. ne_eqb first c (λ same. apart first c same (omega arith))) components trail.above, trail.distinct);
  long = omega (arith, trail.long);
}
  where
    apart : (a b : ℕ) → a ≡ b → rank a < rank b → ⊥
    apart a b same less = let equal = ap rank same in omega arith

module _ (t : Topology) (custom : Custom) (valid : IsValid t) where
  trail_of : (node : Node) (path : List ℕ) (n : Node) → node_from t custom node path ≡ Some n → node.component < length t.components → (components : List ℕ) × IsTrail valid.ranked.rank node.component (length t.components) path components
  trail_of node [] n found within = (node.component ∷ [], trail-nil valid.ranked.rank node.component (length t.components) within)
  trail_of node (i ∷ path) n found within =
      option_and_then_some (λ kid. node_from t custom kid path) (slice_get (kids_of t custom node) i) n found
      (λ kid there rest.
      let grows = each_at (λ (k : Node). valid.ranked.rank node.component < valid.ranked.rank k.component) (kids_of t custom node) i kid
      (each-kids_of t (λ c. valid.ranked.rank node.component < valid.ranked.rank c) custom node (recursion_from_All _ (subs_of t (origin.Component node.component)) (valid.ranked.grows node.component))) there in
      let target = each_at (λ (k : Node). k.component < length t.components) (kids_of t custom node) i kid
      (each-kids_of t (λ c. c < length t.components) custom node (recursion_from_All (IsTarget t) (subs_of t (origin.Component node.component)) (valid.targets (origin.Component node.component)))) there in
      let trail = trail_of kid path n rest target in
      (node.component ∷ trail.0, trail-cons valid.ranked.rank node.component kid.component (length t.components) i path trail.0 within grows trail.1))

  -- a path from a node is shorter than there are components
  pub path_below : (node : Node) (path : List ℕ) (n : Node) → node_from t custom node path ≡ Some n → node.component < length t.components → length path < length t.components
  path_below node path n found within =
      let trail = trail_of node path n found within in
      let few = length-le_from_distinct_below trail.0 (length t.components) trail.1.distinct (each-found (λ c. c < length t.components) trail.0 trail.1.below) in
      omega (arith, few, trail.1.long)

  -- the spout's consumers are components
  pub spout_targets : (rows : List (List Value)) (i : ℕ) (node : Node) → slice_get (kids t origin.Spout rows) i ≡ Some node → node.component < length t.components
  spout_targets rows i node there =
      each_at (λ (k : Node). k.component < length t.components) (kids t origin.Spout rows) i node (each-kids t (λ c. c < length t.components) origin.Spout (recursion_from_All (IsTarget t) (subs_of t origin.Spout) (valid.targets origin.Spout)) rows) there
