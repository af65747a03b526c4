-- How many nodes the trees of joined rows have.
use Rattle.std.proofs.Common.{◌≡◌, ℕ, ◌+◌, ◌-◌, ◌≤◌, List, ◌++◌, length, take, drop, ap, ◌∙◌, arith}
use Rattle.std.specs.List.{slice_range}
use Rattle.std.proofs.Math.ListN.{take-append-drop}
use Rattle.std.proofs.lemmas.List.{length-append}
use Rattle.storm_values.specs.declared.value.Value.{Value}
use Rattle.bolt_ops.specs.RowOp.{Custom}
use Rattle.topology_plan.specs.Topology.{Topology}
use Rattle.tree_model.specs.Trees.{nodes_of, node_count}
use Rattle.tree_model.proofs.Walks.{nodes_of-append}

module _ (t : Topology) (custom : Custom) where
  pub node_count-append : (xs ys : List (List Value)) → node_count t custom (xs ++ ys) ≡ node_count t custom xs + node_count t custom ys
  node_count-append xs ys = ap length (nodes_of-append t custom xs ys) ∙ length-append (nodes_of t custom xs) (nodes_of t custom ys)

  node_count-take : (n : ℕ) (rows : List (List Value)) → node_count t custom (take n rows) ≤ node_count t custom rows
  node_count-take n rows =
      let whole : node_count t custom (take n rows ++ drop n rows) ≡ node_count t custom rows = ap (node_count t custom) (take-append-drop n rows) in
      omega (arith, node_count-append (take n rows) (drop n rows), whole)

  node_count-drop : (n : ℕ) (rows : List (List Value)) → node_count t custom (drop n rows) ≤ node_count t custom rows
  node_count-drop n rows =
      let whole : node_count t custom (take n rows ++ drop n rows) ≡ node_count t custom rows = ap (node_count t custom) (take-append-drop n rows) in
      omega (arith, node_count-append (take n rows) (drop n rows), whole)

  -- some rows in a row have no more nodes than all
  pub node_count-range : (rows : List (List Value)) (first last : ℕ) → node_count t custom (slice_range rows first last) ≤ node_count t custom rows
  node_count-range rows first last = omega (arith, node_count-take (last - first) (drop first rows), node_count-drop first rows)
