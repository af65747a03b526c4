-- The paths of a tuple tree, in path order.
use Rattle.std.specs.Prelude.{ℕ, ◌↔◌, List, Option, Contains, option_and_then}
use Rattle.std.specs.List.Sorted.{IsStrictlySortedBy}
use Rattle.storm_values.specs.Order.{path_cmp}
use Rattle.storm_values.specs.declared.value.Value.{Value}
use Rattle.bolt_ops.specs.RowOp.{Custom}
use Rattle.topology_plan.specs.Topology.{Topology}
use Rattle.tree_model.specs.declared.write.Write.{Write}
use Rattle.tree_model.specs.Trees.{node_at, IsInTree, write_of}

-- exactly the paths of the tree of the spout's rows, each once and in order
pub record ArePathsOf (t : Topology) (custom : Custom) (rows : List (List Value))
    (paths : List (List ℕ)) : Type 0 where
  pub exact : (path : List ℕ) → IsInTree t custom rows path ↔ Contains paths path
  pub ordered : IsStrictlySortedBy path_cmp paths

-- the write of the node at a path
abbrev pub write_at : Topology → Custom → List (List Value) → List ℕ → Option Write
write_at t custom rows path = option_and_then (write_of t) (node_at t custom rows path)
