-- Tuples that are made of nodes: their nodes, their roots and their depth.
use Rattle.std.proofs.Common.{◌≡◌, ℕ, zero, suc, ◌+◌, Bool, true, false, cond, List, [], ◌∷◌, ◌++◌, map, length, length-append, refl, sym, ap, ◌∙◌, arith}
use Rattle.std.specs.List.{AllByRecursion, flat_map}
use Rattle.std.proofs.lemmas.List.{map-append}
use Rattle.tree_model.specs.bolt_ops.RowOp.{Custom}
use Rattle.tree_model.specs.storm_values.declared.value.Root.{Root}
use Rattle.tree_model.specs.topology_plan.Topology.{Topology}
use Rattle.tree_model.specs.tuple_tickets.Tickets.{made_by}
use Rattle.tree_model.specs.tuple_tickets.Trees.{Course, goes, fails, mute}
use Rattle.tree_model.specs.declared.messages.AckMsg.{AckMsg}
use Rattle.tree_model.specs.declared.messages.Tuple.{Tuple}
use Rattle.tree_model.specs.Courses.{course_at}
use Rattle.tree_model.specs.Lists.{root_of}
use Rattle.tree_model.specs.Trees.{Node, kids_of}
use Rattle.tracked_trees.specs.Reached.{is_goes, kids_at}
use Rattle.tuple_account.specs.Accounts.{IsRun}
use Rattle.tuple_account.specs.Issued.{Run, node_of, tuples_from, course_of_run, children_of, notes_by, notes_of}

-- a fact of tuples of any nodes, paths one longer and ids
pub each-from : (P : Tuple → Type 0) (root : Root) (path : List ℕ) → ((tuple : Tuple) → tuple.root ≡ root → length tuple.edge.path ≡ length path + 1 → P tuple)
    → (j : ℕ) (nodes : List Node) (ids : List ℕ) → AllByRecursion P (tuples_from root path j nodes ids)
each-from P root path each j [] ids = tt
each-from P root path each j (node ∷ nodes) [] = tt
each-from P root path each j (node ∷ nodes) (id ∷ ids) = (
  each (record { root = root; edge = record { path = path ++ j ∷ []; id = id }; component = node.component; row = node.row }) refl (length-append path (j ∷ [])),
  each-from P root path each (suc j) nodes ids,
)

pub each-made : (P : Tuple → Type 0) (c : Course) (tuples : List Tuple) → AllByRecursion P tuples → AllByRecursion P (made_by c tuples)
each-made P goes tuples all = all
each-made P fails tuples all = tt
each-made P mute tuples all = tt

pub each-child : (t : Topology) (custom : Custom) (P : Tuple → Type 0) (u : Run) → ((tuple : Tuple) → tuple.root ≡ u.tuple.root → length tuple.edge.path ≡ length u.tuple.edge.path + 1 → P tuple) → AllByRecursion P (children_of t custom u)
each-child t custom P u each =
    each-made P (course_of_run t custom u) (tuples_from u.tuple.root u.tuple.edge.path 0 (kids_of t custom (node_of u.tuple)) u.ids)
    (each-from P u.tuple.root u.tuple.edge.path each 0 (kids_of t custom (node_of u.tuple)) u.ids)

-- what a run tells is about its root
pub each-note : (t : Topology) (custom : Custom) (P : AckMsg → Type 0) (u : Run) → ((m : AckMsg) → root_of m ≡ u.tuple.root → P m) → AllByRecursion P (notes_of t custom u)
each-note t custom P u each = by (course_of_run t custom u)
  where
    by : (c : Course) → AllByRecursion P (notes_by t custom u c)
    by goes = (each _ refl, tt)
    by fails = (each _ refl, tt)
    by mute = tt

-- the tuples have the nodes
pub nodes_back : (root : Root) (path : List ℕ) (j : ℕ) (nodes : List Node) (ids : List ℕ) → length ids ≡ length nodes → map node_of (tuples_from root path j nodes ids) ≡ nodes
nodes_back root path j [] ids enough = refl
nodes_back root path j (node ∷ nodes) [] enough = absurd (omega (arith, enough))
nodes_back root path j (node ∷ nodes) (id ∷ ids) enough = ap (λ rest. node ∷ rest) (nodes_back root path (suc j) nodes ids (omega (arith, enough)))

module _ (t : Topology) (custom : Custom) (attempt : ℕ) where
  -- the children of a run are what its node makes at the attempt
  kids_back : (u : Run) → u.tuple.root.attempt ≡ attempt → IsRun t custom u → map node_of (children_of t custom u) ≡ kids_at t custom attempt (node_of u.tuple)
  kids_back u at well =
      by (course_of_run t custom u) refl ∙ ap (λ (n : ℕ). cond (is_goes (course_at t custom n (node_of u.tuple))) (kids_of t custom (node_of u.tuple)) []) at
    where
      by : (c : Course) → course_of_run t custom u ≡ c
          → map node_of (made_by c (tuples_from u.tuple.root u.tuple.edge.path 0 (kids_of t custom (node_of u.tuple)) u.ids)) ≡ cond (is_goes c) (kids_of t custom (node_of u.tuple)) []
      by goes is = nodes_back u.tuple.root u.tuple.edge.path 0 (kids_of t custom (node_of u.tuple)) u.ids (well is)
      by fails is = refl
      by mute is = refl

  pub all_kids_back : (us : List Run) → AllByRecursion (λ (u : Run). u.tuple.root.attempt ≡ attempt) us → AllByRecursion (IsRun t custom) us
      → map node_of (flat_map (children_of t custom) us) ≡ flat_map (kids_at t custom attempt) (map node_of (map (λ (u : Run). u.tuple) us))
  all_kids_back [] at well = refl
  all_kids_back (u ∷ us) at well =
      map-append node_of (children_of t custom u) (flat_map (children_of t custom) us)
      ∙ (λ i. kids_back u at.0 well.0 i ++ all_kids_back us at.1 well.1 i)
