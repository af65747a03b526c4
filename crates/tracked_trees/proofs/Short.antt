-- No path of a tree has more numbers than there are components.
use Rattle.std.proofs.Common.{◌≡◌, ℕ, zero, suc, ◌+◌, ◌<◌, ◌≤◌, List, [], ◌∷◌, ◌++◌, map, length, Some, IsSome, is_some, sym, ap, arith}
use Rattle.std.proofs.lemmas.List.Elements.{All-from_recursion, All-contains}
use Rattle.std.specs.List.{AllByRecursion}
use Rattle.tree_model.proofs.counted_items.Each.{each-append, each-to_map, each-weaker}
use Rattle.tree_model.specs.bolt_ops.RowOp.{Custom}
use Rattle.tree_model.specs.storm_values.declared.value.Value.{Value}
use Rattle.tree_model.specs.topology_plan.declared.parts.Origin.TheVariants as origin
use Rattle.tree_model.specs.topology_plan.Topology.{Topology}
use Rattle.tree_model.specs.topology_plan.Valid.{IsValid}
use Rattle.tree_model.specs.Trees.{Node, kids, kids_of, node_at}
use Rattle.tree_model.proofs.TreePaths.{paths_over, paths_from, paths, paths_are}

few_over : {X : Type 0} (f : X → List (List ℕ)) (levels : ℕ) → ((x : X) → AllByRecursion (λ (path : List ℕ). length path < levels) (f x)) → (i : ℕ) (xs : List X) → AllByRecursion (λ (path : List ℕ). length path < levels + 1) (paths_over f i xs)
few_over f levels each i [] = tt
few_over f levels each i (x ∷ xs) =
    each-append (λ (path : List ℕ). length path < levels + 1) (map (λ path. i ∷ path) (f x)) (paths_over f (suc i) xs)
    (each-to_map (λ (path : List ℕ). length path < levels + 1) (λ path. i ∷ path) (f x)
    (each-weaker (λ (path : List ℕ). length path < levels) (λ (path : List ℕ). length (i ∷ path) < levels + 1) (λ path few. omega arith) (f x) (each x)))
    (few_over f levels each (suc i) xs)

few_from : (levels : ℕ) (t : Topology) (custom : Custom) (node : Node) → AllByRecursion (λ (path : List ℕ). length path < levels) (paths_from levels t custom node)
few_from zero t custom node = tt
few_from (suc levels) t custom node = (
  omega arith,
  each-weaker (λ (path : List ℕ). length path < levels + 1) (λ (path : List ℕ). length path < suc levels) (λ path few. omega arith) (paths_over (paths_from levels t custom) 0 (kids_of t custom node))
      (few_over (paths_from levels t custom) levels (few_from levels t custom) 0 (kids_of t custom node)),
)

pub short : (t : Topology) (custom : Custom) (rows : List (List Value)) (path : List ℕ) (node : Node) → IsValid t → node_at t custom rows path ≡ Some node → length path ≤ length t.components
short t custom rows path node valid there =
    let some : IsSome (node_at t custom rows path) = ap is_some there in
    let among = ((paths_are t custom rows valid).exact path).0 some in
    let few : length path < length t.components + 1 =
    All-contains (λ (p : List ℕ). length p < length t.components + 1) (paths t custom rows) path
    (All-from_recursion (λ (p : List ℕ). length p < length t.components + 1) (paths t custom rows) (few_over (paths_from (length t.components) t custom) (length t.components) (few_from (length t.components) t custom) 0 (kids t origin.Spout rows))) among in
    omega arith
