-- The paths of a tuple tree: they stand in order, and lead to its nodes in order.
use Rattle.std.proofs.Common.{◌≡◌, ◌≢◌, ℕ, zero, suc, ◌+◌, ◌<◌, ◌≤◌, List, [], ◌∷◌, ◌++◌, map, length, slice_get, Option, Some, None, Less, IsSome, is_some, Contains, sym, refl, ap, subst, ◌∙◌, arith, option_and_then}
use Rattle.std.proofs.lemmas.Bool.{lt-ltb, false≢true}
use Rattle.std.proofs.lemmas.Cmp.{tied_itself, nat_cmp_total, nat_list_cmp_total}
use Rattle.std.proofs.lemmas.List.{length-map, map-append}
use Rattle.std.proofs.lemmas.List.Elements.{All-from_recursion, All-contains, Contains-append_left, Contains-append_right}
use Rattle.std.proofs.lemmas.Map.Lookups.{exact_bytes}
use Rattle.std.proofs.lemmas.Option.{none-some, same_Some, option_and_then_some}
use Rattle.std.specs.List.{flat_map, filter_map, cons_option, AllByRecursion}
use Rattle.std.specs.List.Sorted.{IsStrictlySortedBy}
use Rattle.std.specs.Ordering.{ordering_then}
use Rattle.storm_values.specs.declared.value.Value.{Value}
use Rattle.bolt_ops.specs.RowOp.{Custom}
use Rattle.topology_plan.specs.declared.parts.Origin.TheVariants as origin
use Rattle.topology_plan.specs.Topology.{Topology}
use Rattle.topology_plan.specs.Valid.{IsValid}
use Rattle.tuple_tickets.proofs.Once.{and_then-some, node_in-push}
use Rattle.tree_model.specs.Paths.{ArePathsOf, write_at}
use Rattle.storm_values.specs.Order.{path_cmp}
use Rattle.tree_model.specs.Trees.{Node, kids, kids_of, node_from, node_at, IsInTree, nodes_from, nodes_of, node_count, write_of, writes}
use Rattle.tree_model.proofs.Depth.{path_below, spout_targets}
use Rattle.tree_model.proofs.Lists.{each-append, each-map, each-any, each-weaker, map-map, map_same, sorted-append, sorted-map, sorted_same, Contains-head, Contains-later, Contains-map}

-- ---- longer paths

pub node_at-one : (t : Topology) (custom : Custom) (rows : List (List Value)) (i : ℕ) → node_at t custom rows (i ∷ []) ≡ slice_get (kids t origin.Spout rows) i
node_at-one t custom rows i = and_then-some (slice_get (kids t origin.Spout rows) i)

pub node_at-push : (t : Topology) (custom : Custom) (rows : List (List Value)) (path : List ℕ) (j : ℕ) → path ≢ [] → node_at t custom rows (path ++ j ∷ []) ≡ option_and_then (λ n. slice_get (kids_of t custom n) j) (node_at t custom rows path)
node_at-push t custom rows [] j some = absurd (some refl)
node_at-push t custom rows (i ∷ path) j some = node_in-push (kids_of t custom) (kids t origin.Spout rows) i path j

-- ---- the list of the paths

-- the paths of some items, each below its number, from a first number on
abbrev pub paths_over : {X : Type 0} → (X → List (List ℕ)) → ℕ → List X → List (List ℕ)
paths_over f i [] = []
paths_over f i (x ∷ xs) = map (λ path. i ∷ path) (f x) ++ paths_over f (suc i) xs

-- the paths from a node, of what is at most this many levels below
abbrev pub paths_from : ℕ → Topology → Custom → Node → List (List ℕ)
paths_from zero t custom node = []
paths_from (suc levels) t custom node = [] ∷ paths_over (paths_from levels t custom) 0 (kids_of t custom node)

-- the paths of the tree
abbrev pub paths : Topology → Custom → List (List Value) → List (List ℕ)
paths t custom rows = paths_over (paths_from (length t.components) t custom) 0 (kids t origin.Spout rows)

-- ---- order

-- a path that begins with a number, which is not below this one
abbrev StartsFrom : ℕ → List ℕ → Type 0
StartsFrom i [] = ⊥
StartsFrom i (j ∷ path) = i ≤ j

starts_over : {X : Type 0} (f : X → List (List ℕ)) (i : ℕ) (xs : List X) → AllByRecursion (StartsFrom i) (paths_over f i xs)
starts_over f i [] = tt
starts_over f i (x ∷ xs) =
    each-append (StartsFrom i) (map (λ path. i ∷ path) (f x)) (paths_over f (suc i) xs) (each-map (StartsFrom i) (λ path. i ∷ path) (f x) (each-any (λ path. i ≤ i) (λ path. omega arith) (f x)))
    (each-weaker (StartsFrom (suc i)) (StartsFrom i) (later i) (paths_over f (suc i) xs) (starts_over f (suc i) xs))
  where
    later : (i : ℕ) (path : List ℕ) → StartsFrom (suc i) path → StartsFrom i path
    later i [] starts = starts
    later i (j ∷ path) starts = omega arith

before_later : (i : ℕ) (path other : List ℕ) → StartsFrom (suc i) other → path_cmp (i ∷ path) other ≡ Less
before_later i path [] starts = absurd starts
before_later i path (j ∷ other) starts = let less = lt-ltb i j (omega arith) in rw less refl

below_same : (i : ℕ) (path other : List ℕ) → path_cmp path other ≡ Less → path_cmp (i ∷ path) (i ∷ other) ≡ Less
below_same i path other less = ap (λ o. ordering_then o (path_cmp path other)) (tied_itself nat_cmp_total i) ∙ less

sorted_over : {X : Type 0} (f : X → List (List ℕ)) → ((x : X) → IsStrictlySortedBy path_cmp (f x)) → (i : ℕ) (xs : List X) → IsStrictlySortedBy path_cmp (paths_over f i xs)
unfolding IsStrictlySortedBy
sorted_over f each i [] = tt
sorted_over f each i (x ∷ xs) =
    sorted-append path_cmp (map (λ path. i ∷ path) (f x)) (paths_over f (suc i) xs) (sorted-map path_cmp path_cmp (λ path. i ∷ path) (below_same i) (f x) (each x)) (sorted_over f each (suc i) xs)
    (each-map (λ path. AllByRecursion (λ other. path_cmp path other ≡ Less) (paths_over f (suc i) xs)) (λ path. i ∷ path) (f x)
    (each-any (λ path. AllByRecursion (λ other. path_cmp (i ∷ path) other ≡ Less) (paths_over f (suc i) xs))
    (λ path. each-weaker (StartsFrom (suc i)) (λ other. path_cmp (i ∷ path) other ≡ Less) (before_later i path) (paths_over f (suc i) xs) (starts_over f (suc i) xs)) (f x)))

after_empty : (i : ℕ) (path : List ℕ) → StartsFrom i path → path_cmp [] path ≡ Less
after_empty i [] starts = absurd starts
after_empty i (j ∷ path) starts = refl

sorted_from : (levels : ℕ) (t : Topology) (custom : Custom) (node : Node) → IsStrictlySortedBy path_cmp (paths_from levels t custom node)
unfolding IsStrictlySortedBy
sorted_from zero t custom node = tt
sorted_from (suc levels) t custom node = (
  each-weaker (StartsFrom 0) (λ path. path_cmp [] path ≡ Less) (after_empty 0) (paths_over (paths_from levels t custom) 0 (kids_of t custom node)) (starts_over (paths_from levels t custom) 0 (kids_of t custom node)),
  sorted_over (paths_from levels t custom) (sorted_from levels t custom) 0 (kids_of t custom node),
)

-- ---- the nodes at the paths

-- what is at the paths below some items, where `look` finds the items by their numbers
looked_over : (look : List ℕ → Option Node) (from : Node → List ℕ → Option Node) (f : Node → List (List ℕ)) (g : Node → List Node) → ((node : Node) → map (from node) (f node) ≡ map Some (g node)) → (all : List Node) → ((i : ℕ) (path : List ℕ) → look (i ∷ path) ≡ option_and_then (λ node. from node path) (slice_get all i))
    → (i : ℕ) (nodes : List Node) → ((k : ℕ) → slice_get all (k + i) ≡ slice_get nodes k) → map look (paths_over f i nodes) ≡ map Some (flat_map g nodes)
looked_over look from f g each all by i [] there = refl
looked_over look from f g each all by i (node ∷ nodes) there =
    map-append look (map (λ path. i ∷ path) (f node)) (paths_over f (suc i) nodes)
    ∙ (λ j. here j ++ looked_over look from f g each all by (suc i) nodes later j)
    ∙ sym (map-append Some (g node) (flat_map g nodes))
  where
    later : (k : ℕ) → slice_get all (k + suc i) ≡ slice_get nodes k
    later k = ap (slice_get all) (omega arith) ∙ there (suc k)

    at : slice_get all i ≡ Some node
    at = ap (slice_get all) (omega arith) ∙ there 0

    here : map look (map (λ path. i ∷ path) (f node)) ≡ map Some (g node)
    here = map-map look (λ path. i ∷ path) (f node) ∙ map_same (λ path. look (i ∷ path)) (from node) (λ path. by i path ∙ ap (option_and_then (λ n. from n path)) at) (f node) ∙ each node

looked_from : (levels : ℕ) (t : Topology) (custom : Custom) (node : Node) → map (node_from t custom node) (paths_from levels t custom node) ≡ map Some (nodes_from levels t custom node)
looked_from zero t custom node = refl
looked_from (suc levels) t custom node =
    ap (λ rest. Some node ∷ rest)
    (looked_over (node_from t custom node) (node_from t custom) (paths_from levels t custom) (nodes_from levels t custom) (looked_from levels t custom) (kids_of t custom node) (λ i path. refl) 0 (kids_of t custom node) (λ k. ap (slice_get (kids_of t custom node)) (omega arith)))

looked : (t : Topology) (custom : Custom) (rows : List (List Value)) → map (node_at t custom rows) (paths t custom rows) ≡ map Some (nodes_of t custom rows)
unfolding nodes_of
looked t custom rows =
    looked_over (node_at t custom rows) (node_from t custom) (paths_from (length t.components) t custom) (nodes_from (length t.components) t custom) (looked_from (length t.components) t custom) (kids t origin.Spout rows) (λ i path. refl) 0 (kids t origin.Spout rows) (λ k. ap (slice_get (kids t origin.Spout rows)) (omega arith))

-- ---- exactly the paths with a node

has_over : {X : Type 0} (f : X → List (List ℕ)) (i : ℕ) (xs : List X) (k : ℕ) (x : X) (path : List ℕ) (number : ℕ) → slice_get xs k ≡ Some x → Contains (f x) path → number ≡ k + i → Contains (paths_over f i xs) (number ∷ path)
has_over f i [] k x path number there has is = absurd (none-some x there)
has_over f i (y ∷ ys) zero x path number there has is =
    let here : number ≡ i = omega arith in
    let found = subst (λ z. Contains (f z) path) (sym (same_Some y x there)) has in
    rw here (Contains-append_left (map (λ p. i ∷ p) (f y)) (paths_over f (suc i) ys) (i ∷ path) (Contains-map (λ p. i ∷ p) (f y) path found))
has_over f i (y ∷ ys) (suc k) x path number there has is =
    Contains-append_right (map (λ p. i ∷ p) (f y)) (paths_over f (suc i) ys) (number ∷ path) (has_over f (suc i) ys k x path number there has (omega arith))

has_from : (levels : ℕ) (t : Topology) (custom : Custom) (node : Node) (path : List ℕ) (n : Node) → node_from t custom node path ≡ Some n → length path < levels → Contains (paths_from levels t custom node) path
has_from zero t custom node path n found few = absurd (omega arith)
has_from (suc levels) t custom node [] n found few = Contains-head [] (paths_over (paths_from levels t custom) 0 (kids_of t custom node))
has_from (suc levels) t custom node (i ∷ path) n found few =
    option_and_then_some (λ kid. node_from t custom kid path) (slice_get (kids_of t custom node) i) n found
    (λ kid there rest. Contains-later [] (paths_over (paths_from levels t custom) 0 (kids_of t custom node)) (i ∷ path)
    (has_over (paths_from levels t custom) 0 (kids_of t custom node) i kid path i there (has_from levels t custom kid path n rest (omega arith)) (omega arith)))

has_path : (t : Topology) (custom : Custom) (rows : List (List Value)) → IsValid t → (path : List ℕ) (n : Node) → node_at t custom rows path ≡ Some n → Contains (paths t custom rows) path
has_path t custom rows valid [] n found = absurd (none-some n found)
has_path t custom rows valid (i ∷ path) n found =
    option_and_then_some (λ node. node_from t custom node path) (slice_get (kids t origin.Spout rows) i) n found
    (λ node there rest.
    has_over (paths_from (length t.components) t custom) 0 (kids t origin.Spout rows) i node path i there
    (has_from (length t.components) t custom node path n rest (path_below t custom valid node path n rest (spout_targets t custom valid rows i node there))) (omega arith))

some_at : {X Y : Type 0} (look : X → Option Y) (xs : List X) (ys : List Y) → map look xs ≡ map Some ys → AllByRecursion (λ x. IsSome (look x)) xs
some_at look [] ys same = tt
some_at look (x ∷ xs) [] same = absurd (cc)
some_at look (x ∷ xs) (y ∷ ys) same =
    let here : look x ≡ Some y = cc in
    let later : map look xs ≡ map Some ys = cc in
    (ap is_some here, some_at look xs ys later)

has_node : {X : Type 0} (o : Option X) → IsSome o → (x : X) × (o ≡ Some x)
has_node None some = absurd (false≢true some)
has_node (Some x) some = (x, refl)

written_at : {X Y Z : Type 0} (h : Y → Option Z) (look : X → Option Y) (xs : List X) (ys : List Y) → map look xs ≡ map Some ys → filter_map (λ x. option_and_then h (look x)) xs ≡ filter_map h ys
written_at h look [] [] same = refl
written_at h look [] (y ∷ ys) same = absurd (cc)
written_at h look (x ∷ xs) [] same = absurd (cc)
written_at h look (x ∷ xs) (y ∷ ys) same =
    let here : look x ≡ Some y = cc in
    let later : map look xs ≡ map Some ys = cc in
    ap (λ o. cons_option (option_and_then h o) (filter_map (λ z. option_and_then h (look z)) xs)) here ∙ ap (cons_option (h y)) (written_at h look xs ys later)

module _ (t : Topology) (custom : Custom) (rows : List (List Value)) where
  -- there is a list of the paths
  pub paths_are : IsValid t → ArePathsOf t custom rows (paths t custom rows)
  paths_are valid = record {
    exact = λ path. (
      λ in_tree. let node = has_node (node_at t custom rows path) in_tree in has_path t custom rows valid path node.0 node.1,
      λ among. All-contains (IsInTree t custom rows) (paths t custom rows) path (All-from_recursion (IsInTree t custom rows) (paths t custom rows) (some_at (node_at t custom rows) (paths t custom rows) (nodes_of t custom rows) (looked t custom rows))) among,
    );
    ordered = sorted_over (paths_from (length t.components) t custom) (sorted_from (length t.components) t custom) 0 (kids t origin.Spout rows);
  }

  -- and it is one
  paths_one : (a b : List (List ℕ)) → ArePathsOf t custom rows a → ArePathsOf t custom rows b → a ≡ b
  paths_one a b first second =
      sorted_same nat_list_cmp_total exact_bytes a b first.ordered second.ordered (λ path among. (second.exact path).0 ((first.exact path).1 among)) (λ path among. (first.exact path).0 ((second.exact path).1 among))

  -- the writes stand in the order of the paths of their nodes
  pub writes_in_order : (ps : List (List ℕ)) → IsValid t → ArePathsOf t custom rows ps → writes t custom rows ≡ filter_map (write_at t custom rows) ps
  writes_in_order ps valid are =
      sym (written_at (write_of t) (node_at t custom rows) (paths t custom rows) (nodes_of t custom rows) (looked t custom rows))
      ∙ ap (filter_map (write_at t custom rows)) (paths_one (paths t custom rows) ps (paths_are valid) are)

  -- there are as many nodes as paths
  pub as_many_paths : (ps : List (List ℕ)) → IsValid t → ArePathsOf t custom rows ps → node_count t custom rows ≡ length ps
  as_many_paths ps valid are =
      sym (length-map {B = Option Node} (nodes_of t custom rows) Some) ∙ ap length (sym (looked t custom rows)) ∙ length-map (paths t custom rows) (node_at t custom rows)
      ∙ ap length (paths_one (paths t custom rows) ps (paths_are valid) are)
