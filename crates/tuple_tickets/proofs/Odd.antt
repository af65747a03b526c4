-- A true, closed list with one init consumes each path of the tree an odd number of times.
use Rattle.std.proofs.Common.{◌≡◌, ◌≢◌, ℕ, ◌+◌, ◌%◌, ◌<◌, Bool, true, false, cond, true≢false, List, [], ◌∷◌, ◌++◌, length, Some, slice_get, sym, refl, ap, ◌∙◌, arith}
use Rattle.storm_values.specs.declared.value.Root.{Root}
use Rattle.counted_items.specs.Weights.{weigh}
use Rattle.counted_items.proofs.Weighing.{weigh-append, weigh-map}
use Rattle.tuple_tickets.specs.declared.edge.Edge.{Edge}
use Rattle.tuple_tickets.specs.Lists.{Message, init, done, failed, occurrences_in, occurrences, consumes, is_init, paths_of, IsTrueOf, AreTrueOf, IsClosed}
use Rattle.tuple_tickets.specs.Paths.{path_eq, is_path, paths_below}
use Rattle.tuple_tickets.specs.Trees.{Growth, node_at}
use Rattle.tuple_tickets.proofs.Once.{and_then-some, led}
use Rattle.tuple_tickets.proofs.Paths.{by_ends, same_path, path_itself, slice_get-below, below_other, below_same}
use Rattle.tuple_tickets.proofs.Toggles.{left_of, weigh-left_of, times-left_of, none-left}

-- the weight that is 1 at an edge of a path
abbrev pub at_path : List ℕ → Edge → ℕ
at_path path e = is_path path e.path

-- edges with these paths
pub paths_weigh : (path : List ℕ) (es : List Edge) (ps : List (List ℕ)) → paths_of es ≡ ps → weigh (at_path path) es ≡ weigh (is_path path) ps
paths_weigh path es ps is = sym (weigh-map (is_path path) (λ (e : Edge). e.path) es) ∙ ap (weigh (is_path path)) is

-- in a closed list each path has an even number of edges
pub closed_paths : (list : List Message) → IsClosed list → (path : List ℕ) → weigh (at_path path) (occurrences list) % 2 ≡ 0
closed_paths list closed path = weigh-left_of (at_path path) (occurrences list) ∙ ap (λ (es : List Edge). weigh (at_path path) es % 2) (none-left (left_of (occurrences list)) (λ e. times-left_of (occurrences list) e ∙ closed e))

module _ {N : Type 0} (g : Growth N) (r : Root) where
  -- the message makes the edge of a path that is one below q
  abbrev parent : List ℕ → Message → ℕ
  parent [] m = is_init m
  parent (i ∷ q) m = consumes (i ∷ q) m

  -- in a true message the edges of a path of the tree are those that consume it and those that make it
  balance_of : (q : List ℕ) (k : ℕ) (n : N) → node_at g r (q ++ k ∷ []) ≡ Some n → (m : Message) → IsTrueOf g r m
      → weigh (at_path (q ++ k ∷ [])) (occurrences_in m) ≡ consumes (q ++ k ∷ []) m + parent q m
  balance_of [] k n there (init es) is_true =
      let e = paths_weigh (k ∷ []) es (paths_below [] 0 (length (g.firsts r))) is_true in
      let found : slice_get (g.firsts r) k ≡ Some n = sym (and_then-some (slice_get (g.firsts r) k)) ∙ there in
      let one = below_same [] k 0 (length (g.firsts r)) (omega arith) (let h = slice_get-below (g.firsts r) k n found in omega arith) in omega arith
  balance_of (i ∷ q) k n there (init es) is_true =
      let e = paths_weigh ((i ∷ q) ++ k ∷ []) es (paths_below [] 0 (length (g.firsts r))) is_true in
      let none = below_other (i ∷ q) k [] 0 (length (g.firsts r)) (λ e. cc) in omega arith
  balance_of [] k n there (done c ps) is_true =
      let e = paths_weigh (k ∷ []) ps (paths_below c.path 0 (length (g.kids is_true.0))) is_true.3 in
      let none = below_other [] k c.path 0 (length (g.kids is_true.0)) (λ e. let none_at : node_at g r [] ≡ Some is_true.0 = rw e at is_true.1 in absurd (cc)) in omega arith
  balance_of (i ∷ q) k n there (done c ps) is_true =
      let e = paths_weigh ((i ∷ q) ++ k ∷ []) ps (paths_below c.path 0 (length (g.kids is_true.0))) is_true.3 in
      let up = led g r i q k n there in
      cases (path_eq c.path (i ∷ q)) refl e up
    where
      cases : (b : Bool) → path_eq c.path (i ∷ q) ≡ b → weigh (at_path ((i ∷ q) ++ k ∷ [])) ps ≡ weigh (is_path ((i ∷ q) ++ k ∷ [])) (paths_below c.path 0 (length (g.kids is_true.0)))
          → ((m : N) × (node_at g r (i ∷ q) ≡ Some m) × (slice_get (g.kids m) k ≡ Some n))
          → at_path ((i ∷ q) ++ k ∷ []) c + weigh (at_path ((i ∷ q) ++ k ∷ [])) ps ≡ at_path ((i ∷ q) ++ k ∷ []) c + cond (path_eq c.path (i ∷ q)) 1 0
      cases true is e up =
          let same : c.path ≡ i ∷ q = same_path c.path (i ∷ q) is in
          let node : Some is_true.0 ≡ Some up.0 = sym is_true.1 ∙ ap (node_at g r) same ∙ up.1 in
          let one_node : is_true.0 ≡ up.0 = cc in
          let few : k < length (g.kids is_true.0) = rw one_node (slice_get-below (g.kids up.0) k n up.2) in
          let one : weigh (is_path ((i ∷ q) ++ k ∷ [])) (paths_below c.path 0 (length (g.kids is_true.0))) ≡ 1 = rw same (below_same (i ∷ q) k 0 (length (g.kids is_true.0)) (omega arith) (omega arith)) in
          rw is (omega arith)
      cases false is e up =
          let apart : c.path ≢ i ∷ q = λ same. true≢false (sym (path_itself c.path) ∙ ap (path_eq c.path) same ∙ is) in
          let none = below_other (i ∷ q) k c.path 0 (length (g.kids is_true.0)) apart in
          rw is (omega arith)
  balance_of [] k n there (failed p) is_true = omega arith
  balance_of (i ∷ q) k n there (failed p) is_true = omega arith

  -- the same of a list
  pub balance : (q : List ℕ) (k : ℕ) (n : N) → node_at g r (q ++ k ∷ []) ≡ Some n → (list : List Message) → AreTrueOf g r list
      → weigh (at_path (q ++ k ∷ [])) (occurrences list) ≡ weigh (consumes (q ++ k ∷ [])) list + weigh (parent q) list
  balance q k n there [] all = omega arith
  balance q k n there (m ∷ list) all =
      let here = balance_of q k n there m all.0 in
      let rest = balance q k n there list all.1 in
      let both = weigh-append (at_path (q ++ k ∷ [])) (occurrences_in m) (occurrences list) in omega arith

  -- each path of the tree is consumed an odd number of times
  pub odd : (list : List Message) → AreTrueOf g r list → weigh is_init list ≡ 1 → IsClosed list → (path : List ℕ) (n : N) → node_at g r path ≡ Some n → weigh (consumes path) list % 2 ≡ 1
  odd list all_true one_init closed = by_ends (λ path. (n : N) → node_at g r path ≡ Some n → weigh (consumes path) list % 2 ≡ 1) (λ n there. absurd (cc)) more
    where
      more : (q : List ℕ) (k : ℕ) → ((n : N) → node_at g r q ≡ Some n → weigh (consumes q) list % 2 ≡ 1) → (n : N) → node_at g r (q ++ k ∷ []) ≡ Some n → weigh (consumes (q ++ k ∷ [])) list % 2 ≡ 1
      more [] k before n there = let b = balance [] k n there list all_true in let e = closed_paths list closed (k ∷ []) in omega arith
      more (i ∷ q) k before n there =
          let b = balance (i ∷ q) k n there list all_true in
          let e = closed_paths list closed ((i ∷ q) ++ k ∷ []) in
          let up = led g r i q k n there in
          let o = before up.0 up.1 in omega arith
