-- What is reached, counted depth by depth and record by record.
use Rattle.std.proofs.Common.{◌≡◌, ℕ, zero, suc, ◌+◌, List, [], ◌∷◌, ◌++◌, length, refl, sym, ap, ◌∙◌, arith}
use Rattle.std.proofs.lemmas.List.{append-nil}
use Rattle.std.proofs.lemmas.List.Concat.{flat_map-append}
use Rattle.std.specs.List.{flat_map}
use Rattle.tree_model.proofs.counted_items.Weighing.{weigh-append}
use Rattle.tree_model.specs.bolt_ops.RowOp.{Custom}
use Rattle.tree_model.specs.counted_items.Weights.{weigh}
use Rattle.tree_model.specs.storm_values.declared.value.Value.{Value}
use Rattle.tree_model.specs.topology_plan.declared.parts.Origin.TheVariants as origin
use Rattle.tree_model.specs.topology_plan.Topology.{Topology}
use Rattle.tree_model.specs.Trees.{Node, kids, kids_by}
use Rattle.tracked_trees.specs.Reached.{kids_at, reached_from, reached}

module _ (t : Topology) (custom : Custom) (attempt : ℕ) (f : Node → ℕ) where
  pub depths : (levels : ℕ) (nodes : List Node)
      → weigh f (flat_map (reached_from (suc levels) t custom attempt) nodes) ≡ weigh f nodes + weigh f (flat_map (reached_from levels t custom attempt) (flat_map (kids_at t custom attempt) nodes))
  depths levels [] = refl
  depths levels (node ∷ nodes) =
      let below = flat_map (reached_from levels t custom attempt) (kids_at t custom attempt node) in
      let first = weigh-append f below (flat_map (reached_from (suc levels) t custom attempt) nodes) in
      let later = depths levels nodes in
      let cut = ap (weigh f) (flat_map-append (reached_from levels t custom attempt) (kids_at t custom attempt node) (flat_map (kids_at t custom attempt) nodes)) in
      let second = weigh-append f below (flat_map (reached_from levels t custom attempt) (flat_map (kids_at t custom attempt) nodes)) in
      omega (arith, first, later, cut, second)

  pub by_rows : (rows : List (List Value)) → weigh f (flat_map (reached_from (length t.components) t custom attempt) (kids t origin.Spout rows)) ≡ weigh (λ (row : List Value). weigh f (reached t custom attempt row)) rows
  unfolding reached
  by_rows [] = refl
  by_rows (row ∷ rows) =
      let one = ap (λ nodes. weigh f (flat_map (reached_from (length t.components) t custom attempt) nodes)) (append-nil (kids_by t origin.Spout row)) in
      let cut = ap (weigh f) (flat_map-append (reached_from (length t.components) t custom attempt) (kids_by t origin.Spout row) (kids t origin.Spout rows)) in
      let sums = weigh-append f (flat_map (reached_from (length t.components) t custom attempt) (kids_by t origin.Spout row)) (flat_map (reached_from (length t.components) t custom attempt) (kids t origin.Spout rows)) in
      let later = by_rows rows in
      omega (arith, one, cut, sums, later)
