-- A true, single, steady list that covers the tree is closed and has no failure.
use Rattle.std.proofs.Common.{◌≡◌, ◌≢◌, ℕ, zero, suc, ◌+◌, ◌%◌, ◌≤◌, ◌==◌, Bool, true, false, cond, true≢false, List, [], ◌∷◌, ◌++◌, length, Option, None, Some, sym, refl, ap, ◌∙◌, eqb-true, eq-eqb, arith}
use Rattle.std.specs.List.{AllByRecursion}
use Rattle.storm_values.specs.declared.value.Root.{Root}
use Rattle.counted_items.specs.Weights.{weigh}
use Rattle.counted_items.proofs.Each.{each-weaker}
use Rattle.counted_items.proofs.Weighing.{weigh-append, weigh-le}
use Rattle.tuple_tickets.specs.declared.edge.Edge.{Edge}
use Rattle.tuple_tickets.specs.Edges.{edge_eq, is_edge, times}
use Rattle.tuple_tickets.specs.Lists.{Message, init, done, failed, occurrences_in, occurrences, consumes, is_failed, IsTrueOf, AreTrueOf, IsClosed, IsSingle, IsSteady, Covers}
use Rattle.tuple_tickets.specs.Paths.{path_eq, is_path, paths_below}
use Rattle.tuple_tickets.specs.Trees.{Course, goes, fails, Growth, node_at}
use Rattle.tuple_tickets.proofs.Odd.{at_path, paths_weigh, balance}
use Rattle.tuple_tickets.proofs.Once.{and-le, led, node_at-push}
use Rattle.tuple_tickets.proofs.Paths.{by_ends, same_path, other_path, item_at, path_among}
use Rattle.tuple_tickets.proofs.Toggles.{same_edge}

-- ---- edges of one path

-- where e is the only edge at its path, its edges are those of the path
all_of : (e : Edge) (es : List Edge) → AllByRecursion (λ (b : Edge). e.path ≡ b.path → e.id ≡ b.id) es → times e es ≡ weigh (at_path e.path) es
all_of e [] all = refl
all_of e (b ∷ es) all = let here = cases b (path_eq b.path e.path) refl all.0 in let rest = all_of e es all.1 in omega arith
  where
    cases : (b : Edge) (t : Bool) → path_eq b.path e.path ≡ t → (e.path ≡ b.path → e.id ≡ b.id) → is_edge e b ≡ cond t 1 0
    cases b true is same = let p = same_path b.path e.path is in rw (is, eq-eqb b.id e.id (sym (same (sym p)))) refl
    cases b false is same = rw is refl

-- where another edge is the only one at the path, e is none
none_of : (e x : Edge) → x.path ≡ e.path → x.id ≢ e.id → (es : List Edge) → AllByRecursion (λ (b : Edge). x.path ≡ b.path → x.id ≡ b.id) es → times e es ≡ 0
none_of e x path id [] all = refl
none_of e x path id (b ∷ es) all = let here = cases b (edge_eq b e) refl all.0 in let rest = none_of e x path id es all.1 in omega arith
  where
    cases : (b : Edge) (t : Bool) → edge_eq b e ≡ t → (x.path ≡ b.path → x.id ≡ b.id) → ◌≡◌ {A = ℕ} (cond t 1 0) 0
    cases b true is same = let s = same_edge b e is in absurd (id (same (path ∙ ap (λ (y : Edge). y.path) (sym s)) ∙ ap (λ (y : Edge). y.id) s))
    cases b false is same = refl

edge_le : (e : Edge) (es : List Edge) → times e es ≤ weigh (at_path e.path) es
edge_le e es = weigh-le (is_edge e) (at_path e.path) (λ x. and-le (path_eq x.path e.path) (x.id == e.id)) es

-- an edge at the path, with what holds of all edges
found_at : (path : List ℕ) (Q : Edge → Type 0) (es : List Edge) → AllByRecursion Q es → 1 ≤ weigh (at_path path) es → (x : Edge) × (x.path ≡ path) × Q x
found_at path Q [] all some = absurd (omega arith)
found_at path Q (x ∷ es) all some = cases (path_eq x.path path) refl some (found_at path Q es all.1)
  where
    cases : (b : Bool) → path_eq x.path path ≡ b → 1 ≤ cond b 1 0 + weigh (at_path path) es → (1 ≤ weigh (at_path path) es → (y : Edge) × (y.path ≡ path) × Q y) → (y : Edge) × (y.path ≡ path) × Q y
    cases true is some later = (x, same_path x.path path is, all.0)
    cases false is some later = later (omega arith)

zero_or : (n : ℕ) → (1 ≤ n → ⊥) → n ≡ 0
zero_or zero never = refl
zero_or (suc n) never = absurd (never (omega arith))

module _ {N : Type 0} (g : Growth N) (r : Root) where
  -- ---- off the tree

  abbrev HasNode : List ℕ → Type 0
  HasNode path = (n : N) × (node_at g r path ≡ Some n)

  firsts_below : (j n : ℕ) → j + n ≡ length (g.firsts r) → AllByRecursion HasNode (paths_below [] j n)
  firsts_below j zero is = tt
  firsts_below j (suc n) is = ((let x = item_at (g.firsts r) j (omega arith) in (x.0, rw x.1 refl)), firsts_below (suc j) n (omega arith))

  kids_below : (i : ℕ) (q : List ℕ) (m : N) → node_at g r (i ∷ q) ≡ Some m → (j n : ℕ) → j + n ≡ length (g.kids m) → AllByRecursion HasNode (paths_below (i ∷ q) j n)
  kids_below i q m there j zero is = tt
  kids_below i q m there j (suc n) is = ((let x = item_at (g.kids m) j (omega arith) in (x.0, node_at-push g r i q j ∙ rw (there, x.1) refl)), kids_below i q m there (suc j) n (omega arith))

  all_kids_below : (q : List ℕ) (m : N) → node_at g r q ≡ Some m → AllByRecursion HasNode (paths_below q 0 (length (g.kids m)))
  all_kids_below [] m there = absurd (cc)
  all_kids_below (i ∷ q) m there = kids_below i q m there 0 (length (g.kids m)) (omega arith)

  -- no edge of a true message lies off the tree
  off_tree_of : (path : List ℕ) → node_at g r path ≡ None → (m : Message) → IsTrueOf g r m → weigh (at_path path) (occurrences_in m) ≡ 0
  off_tree_of path off (init es) is_true =
      let e = paths_weigh path es (paths_below [] 0 (length (g.firsts r))) is_true in
      let z = zero_or (weigh (is_path path) (paths_below [] 0 (length (g.firsts r)))) (λ some. let h = path_among path (paths_below [] 0 (length (g.firsts r))) HasNode (firsts_below 0 (length (g.firsts r)) (omega arith)) some in absurd (cc)) in omega arith
  off_tree_of path off (done c ps) is_true =
      let e = paths_weigh path ps (paths_below c.path 0 (length (g.kids is_true.0))) is_true.3 in
      let z = zero_or (weigh (is_path path) (paths_below c.path 0 (length (g.kids is_true.0)))) (λ some. let h = path_among path (paths_below c.path 0 (length (g.kids is_true.0))) HasNode (all_kids_below c.path is_true.0 is_true.1) some in absurd (cc)) in
      let apart : path_eq c.path path ≡ false = other_path c.path path (λ same. let there : node_at g r path ≡ Some is_true.0 = rw same at is_true.1 in absurd (cc)) in
      let here : at_path path c ≡ 0 = rw apart refl in omega arith
  off_tree_of path off (failed p) is_true = refl

  off_tree : (path : List ℕ) → node_at g r path ≡ None → (list : List Message) → AreTrueOf g r list → weigh (at_path path) (occurrences list) ≡ 0
  off_tree path off [] all = refl
  off_tree path off (m ∷ list) all =
      let here = off_tree_of path off m all.0 in
      let rest = off_tree path off list all.1 in
      let both = weigh-append (at_path path) (occurrences_in m) (occurrences list) in omega arith

  module _ (list : List Message) (all_true : AreTrueOf g r list) (single : IsSingle list) (steady : IsSteady list) (covers : Covers g r list) where
    -- each path of the tree has two edges: it is made once and consumed once
    twice : (path : List ℕ) (n : N) → node_at g r path ≡ Some n → weigh (at_path path) (occurrences list) ≡ 2
    twice = by_ends (λ path. (n : N) → node_at g r path ≡ Some n → weigh (at_path path) (occurrences list) ≡ 2) (λ n there. absurd (cc)) (λ q k before. more q k)
      where
        more : (q : List ℕ) (k : ℕ) (n : N) → node_at g r (q ++ k ∷ []) ≡ Some n → weigh (at_path (q ++ k ∷ [])) (occurrences list) ≡ 2
        more [] k n there =
            let b = balance g r [] k n there list all_true in
            let s = single.consumed (k ∷ []) in
            let c = covers.consumed (k ∷ []) n there in
            let i = single.begins in
            let j = covers.begins in omega arith
        more (i ∷ q) k n there =
            let b = balance g r (i ∷ q) k n there list all_true in
            let s = single.consumed ((i ∷ q) ++ k ∷ []) in
            let c = covers.consumed ((i ∷ q) ++ k ∷ []) n there in
            let up = led g r i q k n there in
            let t = single.consumed (i ∷ q) in
            let d = covers.consumed (i ∷ q) up.0 up.1 in omega arith

    -- so each edge occurs twice or not at all
    pub closed : IsClosed list
    closed e = by_node (node_at g r e.path) refl
      where
        by_id : (x : Edge) → x.path ≡ e.path → AllByRecursion (λ (b : Edge). x.path ≡ b.path → x.id ≡ b.id) (occurrences list) → weigh (at_path e.path) (occurrences list) ≡ 2 → (t : Bool) → (x.id == e.id) ≡ t → times e (occurrences list) % 2 ≡ 0
        by_id x path all two true is =
            let id = eqb-true x.id e.id is in
            let mine = all_of e (occurrences list) (each-weaker (λ (b : Edge). x.path ≡ b.path → x.id ≡ b.id) (λ (b : Edge). e.path ≡ b.path → e.id ≡ b.id) (λ b same p. sym id ∙ same (path ∙ p)) (occurrences list) all) in
            let both : times e (occurrences list) ≡ 2 = mine ∙ two in omega arith
        by_id x path all two false is = let z = none_of e x path (λ same. true≢false (sym (eq-eqb x.id e.id same) ∙ is)) (occurrences list) all in omega arith

        by_node : (o : Option N) → node_at g r e.path ≡ o → times e (occurrences list) % 2 ≡ 0
        by_node None off =
            let z = off_tree e.path off list all_true in
            let few = edge_le e (occurrences list) in omega arith
        by_node (Some n) there =
            let two = twice e.path n there in
            let x = found_at e.path (λ (a : Edge). AllByRecursion (λ (b : Edge). a.path ≡ b.path → a.id ≡ b.id) (occurrences list)) (occurrences list) steady (omega arith) in
            by_id x.0 x.1 x.2 two (x.0.id == e.id) refl

  -- ---- no message is a failure

  pub consumed_goes : (path : List ℕ) (n : N) → node_at g r path ≡ Some n → (ms : List Message) → AreTrueOf g r ms → 1 ≤ weigh (consumes path) ms → g.course r n ≡ goes
  consumed_goes path n there [] all some = absurd (omega arith)
  consumed_goes path n there (init es ∷ ms) all some = consumed_goes path n there ms all.1 (omega arith)
  consumed_goes path n there (failed p ∷ ms) all some = consumed_goes path n there ms all.1 (omega arith)
  consumed_goes path n there (done c ps ∷ ms) all some = cases (path_eq c.path path) refl some (consumed_goes path n there ms all.1)
    where
      cases : (b : Bool) → path_eq c.path path ≡ b → 1 ≤ cond b 1 0 + weigh (consumes path) ms → (1 ≤ weigh (consumes path) ms → g.course r n ≡ goes) → g.course r n ≡ goes
      cases true is some later =
          let same = same_path c.path path is in
          let node : Some all.0.0 ≡ Some n = sym all.0.1 ∙ ap (node_at g r) same ∙ there in
          let one_node : all.0.0 ≡ n = cc in rw (← one_node) all.0.2
      cases false is some later = later (omega arith)

  goes_apart : (c : Course) → c ≡ goes → c ≡ fails → ⊥
  goes_apart c first second = let bad : goes ≡ fails = sym first ∙ second in cc

  pub no_failure : (list : List Message) → AreTrueOf g r list → Covers g r list → weigh is_failed list ≡ 0
  no_failure list all_true covers = none list all_true
    where
      none : (ms : List Message) → AreTrueOf g r ms → weigh is_failed ms ≡ 0
      none [] all = refl
      none (init es ∷ ms) all = let rest = none ms all.1 in omega arith
      none (done c ps ∷ ms) all = let rest = none ms all.1 in omega arith
      none (failed p ∷ ms) all = absurd (goes_apart (g.course r all.0.0) (consumed_goes p all.0.0 all.0.1 list all_true (covers.consumed p all.0.0 all.0.1)) all.0.2)
