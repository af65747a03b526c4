-- The writes of a list that is true, single and covers a tree are the tree's.
use Rattle.std.proofs.Common.{◌≡◌, ℕ, List, [], ◌∷◌, ◌++◌, map, Some, is_some, IsSome, option_and_then, option_to_list, Contains, IsPermutation, filter_map, sym, refl, ap, ◌∙◌, arith}
use Rattle.std.proofs.lemmas.Bool.{false≢true}
use Rattle.std.proofs.lemmas.List.Elements.{All-contains, All-contains_itself, All-from_recursion, recursion_from_All}
use Rattle.std.proofs.lemmas.List.Sorted.{All-permutation}
use Rattle.std.specs.List.{AllByRecursion, cons_option}
use Rattle.std.specs.Prelude.{Option, None}
use Rattle.tree_model.specs.bolt_ops.RowOp.{Custom}
use Rattle.tree_model.specs.counted_items.Weights.{weigh}
use Rattle.tree_model.proofs.counted_items.Each.{each-flat_map, each-to_map, each-weaker}
use Rattle.tree_model.proofs.counted_items.Sums.{same-IsPermutation}
use Rattle.tree_model.proofs.counted_items.Weighing.{weigh-flat_map, weigh-map, weigh-same}
use Rattle.tree_model.specs.storm_values.declared.value.Root.{Root}
use Rattle.tree_model.specs.storm_values.declared.value.Value.{Value}
use Rattle.tree_model.specs.topology_plan.Topology.{Topology}
use Rattle.tree_model.specs.topology_plan.Valid.{IsValid}
use Rattle.tree_model.specs.tuple_tickets.Paths.{is_path}
use Rattle.tree_model.proofs.tuple_tickets.Paths.{path_among}
use Rattle.tree_model.specs.declared.messages.AckMsg.{AckMsg}
use Rattle.tree_model.specs.declared.messages.AckMsg.TheVariants as msg
use Rattle.tree_model.specs.declared.messages.Done.{Done}
use Rattle.tree_model.specs.declared.write.Write.{Write}
use Rattle.tree_model.specs.Lists.{consumes, AreTrueOf, IsTrueOf, IsSingle, Covers}
use Rattle.tree_model.specs.Paths.{ArePathsOf, write_at}
use Rattle.tree_model.specs.Trees.{Node, IsInTree, node_at, write_of, writes}
use Rattle.tree_model.proofs.Reading.{consumed_said}
use Rattle.tree_model.proofs.TreePaths.{writes_in_order}
use Rattle.commit_writes.specs.Writes.{done_in, dones_in, writes_in, AreInPathOrder, AreWritesOf}
use Rattle.commit_writes.proofs.Rising.{path_of, rising}

-- ---- which paths are consumed

consumed_in : (path : List ℕ) (m : AckMsg) → weigh (is_path path) (map path_of (done_in m)) ≡ consumes path m
consumed_in path (msg.Init m) = refl
consumed_in path (msg.Done m) = omega arith
consumed_in path (msg.Failed m) = refl

-- a path is consumed as often by a list as by its dones
consumed-dones : (path : List ℕ) (list : List AckMsg) → weigh (is_path path) (map path_of (dones_in list)) ≡ weigh (consumes path) list
consumed-dones path list =
    weigh-map (is_path path) path_of (dones_in list) ∙ weigh-flat_map (λ d. is_path path (path_of d)) done_in list
    ∙ weigh-same _ (consumes path) (λ m. sym (weigh-map (is_path path) path_of (done_in m)) ∙ consumed_in path m) list

-- and by them in any order
consumed-ordered : (path : List ℕ) (list : List AckMsg) (ds : List Done) → IsPermutation (dones_in list) ds → weigh (is_path path) (map path_of ds) ≡ weigh (consumes path) list
consumed-ordered path list ds same =
    weigh-map (is_path path) path_of ds ∙ sym (same-IsPermutation (dones_in list) ds same (λ d. is_path path (path_of d)))
    ∙ sym (weigh-map (is_path path) path_of (dones_in list)) ∙ consumed-dones path list

-- ---- what the dones say

module _ (t : Topology) (custom : Custom) (rows : List (List Value)) where
  -- a done whose path has a node, and whose writes are the node's
  record HasNode (d : Done) : Type 0 where
    pub node : Node
    pub there : node_at t custom rows d.consumed.path ≡ Some node
    pub written : d.writes ≡ option_to_list (write_of t node)

  node_of : (root : Root) (m : AckMsg) → IsTrueOf t custom rows root m → AllByRecursion HasNode (done_in m)
  node_of root (msg.Init m) is_true = tt
  node_of root (msg.Done m) is_true = let says = is_true.says_true in (record { node = says.0; there = says.1; written = is_true.carries ∙ ap (λ o. option_to_list (option_and_then (write_of t) o)) says.1 }, tt)
  node_of root (msg.Failed m) is_true = tt

  nodes_of_dones : (root : Root) (list : List AckMsg) → AreTrueOf t custom rows root list → AllByRecursion HasNode (dones_in list)
  nodes_of_dones root list are_true = each-flat_map HasNode done_in list (each-weaker (IsTrueOf t custom rows root) (λ m. AllByRecursion HasNode (done_in m)) (node_of root) list are_true)

  nodes_in_order : (root : Root) (list : List AckMsg) (ds : List Done) → AreTrueOf t custom rows root list → IsPermutation (dones_in list) ds → AllByRecursion HasNode ds
  nodes_in_order root list ds are_true same =
      recursion_from_All HasNode ds (All-permutation HasNode (dones_in list) ds same (All-from_recursion HasNode (dones_in list) (nodes_of_dones root list are_true)))

  in_tree : (d : Done) → HasNode d → IsInTree t custom rows (path_of d)
  in_tree d has = ap is_some has.there

  -- the writes of dones are those at their paths
  written_at : (ds : List Done) → AllByRecursion HasNode ds → writes_in ds ≡ filter_map (write_at t custom rows) (map path_of ds)
  written_at [] all = refl
  written_at (d ∷ ds) all =
      (λ i. all.0.written i ++ written_at ds all.1 i) ∙ one (write_of t all.0.node) (filter_map (write_at t custom rows) (map path_of ds))
      ∙ sym (ap (λ o. cons_option (option_and_then (write_of t) o) (filter_map (write_at t custom rows) (map path_of ds))) all.0.there)
    where
      one : (o : Option Write) (rest : List Write) → option_to_list o ++ rest ≡ cons_option o rest
      one None rest = refl
      one (Some w) rest = refl

  -- ---- the paths of the tree

  node_in : (o : Option Node) → IsSome o → (node : Node) × (o ≡ Some node)
  node_in None some = absurd (false≢true some)
  node_in (Some node) some = (node, refl)

  -- the paths that dones in order consume are the paths of the tree
  paths_are : (root : Root) (list : List AckMsg) (ds : List Done) → AreTrueOf t custom rows root list → IsSingle list → Covers t custom rows list → IsPermutation (dones_in list) ds → AreInPathOrder ds → ArePathsOf t custom rows (map path_of ds)
  paths_are root list ds are_true single covers same ordered = record {
    exact = λ path. (
      λ is_in. let node = node_in (node_at t custom rows path) is_in in
          let some = covers.consumed path node.0 node.1 in
          let count = consumed-ordered path list ds same in
          let said = consumed_said list path in
          path_among path (map path_of ds) (Contains (map path_of ds)) (recursion_from_All (Contains (map path_of ds)) (map path_of ds) (All-contains_itself (map path_of ds))) (omega arith),
      λ among. All-contains (IsInTree t custom rows) (map path_of ds) path
          (All-from_recursion (IsInTree t custom rows) (map path_of ds) (each-to_map (IsInTree t custom rows) path_of ds (each-weaker HasNode (λ d. IsInTree t custom rows (path_of d)) in_tree ds (nodes_in_order root list ds are_true same)))) among,
    );
    ordered = rising ds ordered (λ path. let count = consumed-ordered path list ds same in let said = consumed_said list path in let one = single.consumed path in omega arith);
  }

  -- and so what they write is what the tree's state nodes write
  pub whole_writes : (root : Root) (list : List AckMsg) (made : List Write) → IsValid t → AreTrueOf t custom rows root list → IsSingle list → Covers t custom rows list → AreWritesOf list made → made ≡ writes t custom rows
  whole_writes root list made valid are_true single covers are =
      are.are ∙ written_at are.dones (nodes_in_order root list are.dones are_true are.same)
      ∙ sym (writes_in_order t custom rows (map path_of are.dones) valid (paths_are root list are.dones are_true single covers are.same are.ordered))
