-- A good attempt reaches all nodes of a tree, each of which comes to rows.
use Rattle.std.proofs.Common.{◌≡◌, ◌↔◌, ℕ, zero, suc, ◌<◌, ◌≤◌, Bool, true, false, true≢false, List, [], ◌∷◌, length, slice_get, Some, refl, sym, ap, subst, ◌∙◌, arith}
use Rattle.std.proofs.lemmas.Option.{none-some, same_Some, option_and_then_some}
use Rattle.std.specs.List.{AllByRecursion, flat_map}
use Rattle.tree_model.proofs.counted_items.Each.{each-flat_map, each-parts}
use Rattle.tree_model.specs.bolt_ops.RowOp.{Custom}
use Rattle.tree_model.specs.storm_values.declared.value.Value.{Value}
use Rattle.tree_model.specs.topology_plan.declared.parts.Origin.TheVariants as origin
use Rattle.tree_model.specs.topology_plan.Topology.{Topology}
use Rattle.tree_model.specs.topology_plan.Valid.{IsValid}
use Rattle.tree_model.specs.tuple_tickets.Trees.{Course, goes, fails, mute}
use Rattle.tree_model.specs.Courses.{course_at}
use Rattle.tree_model.specs.Trees.{Node, kids, kids_of, node_at, node_from, nodes_from, nodes_of}
use Rattle.tracked_trees.specs.Reached.{is_goes, goes_at, kids_at, reached_from, reached, is_good}
use Rattle.tracked_trees.proofs.Each.{each_of, all_of, each_at, each_numbered, same_flat}
use Rattle.tracked_trees.proofs.Short.{short}

pub goes_is : (c : Course) → is_goes c ≡ true → c ≡ goes
goes_is goes is = refl
goes_is fails is = absurd (true≢false (sym is))
goes_is mute is = absurd (true≢false (sym is))

pub is_goes-of : (c : Course) → c ≡ goes → is_goes c ≡ true
is_goes-of c is = ap is_goes is

module _ (t : Topology) (custom : Custom) (attempt : ℕ) where
  abbrev Goes : Node → Type 0
  Goes node = goes_at t custom attempt node ≡ true

  all_kids : (node : Node) → Goes node → kids_at t custom attempt node ≡ kids_of t custom node
  all_kids node here = rw here refl

  -- ---- the whole tree

  whole_from : (levels : ℕ) (node : Node) → AllByRecursion Goes (reached_from levels t custom attempt node) → reached_from levels t custom attempt node ≡ nodes_from levels t custom node
  whole_from zero node each = refl
  whole_from (suc levels) node each =
      let below = all_kids node each.0 in
      let later = subst (λ nodes. AllByRecursion Goes (flat_map (reached_from levels t custom attempt) nodes)) below each.1 in
      ap (λ nodes. node ∷ flat_map (reached_from levels t custom attempt) nodes) below
      ∙ ap (λ rest. node ∷ rest) (same_flat Goes (reached_from levels t custom attempt) (nodes_from levels t custom) (whole_from levels) (kids_of t custom node) later)

  pub whole : (row : List Value) → is_good t custom attempt row ≡ true → reached t custom attempt row ≡ nodes_of t custom (row ∷ [])
  unfolding reached nodes_of
  whole row good =
      same_flat Goes (reached_from (length t.components) t custom attempt) (nodes_from (length t.components) t custom) (whole_from (length t.components)) (kids t origin.Spout (row ∷ []))
      (each_of (goes_at t custom attempt) (flat_map (reached_from (length t.components) t custom attempt) (kids t origin.Spout (row ∷ []))) good)

  -- ---- each node comes to rows

  down : (levels : ℕ) (node : Node) (path : List ℕ) (n : Node) → AllByRecursion Goes (reached_from levels t custom attempt node) → length path < levels → node_from t custom node path ≡ Some n → Goes n
  down zero node path n each few found = absurd (omega arith)
  down (suc levels) node [] n each few found = subst Goes (same_Some node n found) each.0
  down (suc levels) node (i ∷ path) n each few found =
      let later = subst (λ nodes. AllByRecursion Goes (flat_map (reached_from levels t custom attempt) nodes)) (all_kids node each.0) each.1 in
      option_and_then_some (λ kid. node_from t custom kid path) (slice_get (kids_of t custom node) i) n found
      (λ kid there rest. down levels kid path n
      (each_at (λ k. AllByRecursion Goes (reached_from levels t custom attempt k)) (kids_of t custom node) i kid (each-parts Goes (reached_from levels t custom attempt) (kids_of t custom node) later) there)
      (omega arith) rest)

  pub all_go : (row : List Value) → IsValid t → is_good t custom attempt row ≡ true → (path : List ℕ) (node : Node) → node_at t custom (row ∷ []) path ≡ Some node → course_at t custom attempt node ≡ goes
  unfolding reached
  all_go row valid good [] node there = absurd (none-some node there)
  all_go row valid good (i ∷ path) node there =
      let few = short t custom (row ∷ []) (i ∷ path) node valid there in
      let each = each-parts Goes (reached_from (length t.components) t custom attempt) (kids t origin.Spout (row ∷ []))
      (each_of (goes_at t custom attempt) (flat_map (reached_from (length t.components) t custom attempt) (kids t origin.Spout (row ∷ []))) good) in
      goes_is (course_at t custom attempt node)
      (option_and_then_some (λ first. node_from t custom first path) (slice_get (kids t origin.Spout (row ∷ [])) i) node there
      (λ first at rest. down (length t.components) first path node
      (each_at (λ k. AllByRecursion Goes (reached_from (length t.components) t custom attempt k)) (kids t origin.Spout (row ∷ [])) i first each at) (omega arith) rest))

  up : (levels : ℕ) (node : Node) → ((path : List ℕ) (n : Node) → node_from t custom node path ≡ Some n → Goes n) → AllByRecursion Goes (reached_from levels t custom attempt node)
  up zero node each = tt
  up (suc levels) node each =
      let here = each [] node refl in (
        here,
        subst (λ nodes. AllByRecursion Goes (flat_map (reached_from levels t custom attempt) nodes)) (sym (all_kids node here))
            (each-flat_map Goes (reached_from levels t custom attempt) (kids_of t custom node)
            (each_numbered (λ kid. AllByRecursion Goes (reached_from levels t custom attempt kid)) (kids_of t custom node)
            (λ i kid there. up levels kid (λ path n found. each (i ∷ path) n (rw there found))))),
      )

  pub good_of : (row : List Value) → ((path : List ℕ) (node : Node) → node_at t custom (row ∷ []) path ≡ Some node → course_at t custom attempt node ≡ goes) → is_good t custom attempt row ≡ true
  unfolding reached
  good_of row each =
      all_of (goes_at t custom attempt) (flat_map (reached_from (length t.components) t custom attempt) (kids t origin.Spout (row ∷ [])))
      (each-flat_map Goes (reached_from (length t.components) t custom attempt) (kids t origin.Spout (row ∷ []))
      (each_numbered (λ kid. AllByRecursion Goes (reached_from (length t.components) t custom attempt kid)) (kids t origin.Spout (row ∷ []))
      (λ i kid there. up (length t.components) kid (λ path n found. is_goes-of (course_at t custom attempt n) (each (i ∷ path) n (rw there found))))))
