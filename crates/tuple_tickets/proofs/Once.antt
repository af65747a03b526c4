-- No two tickets of an account have one root and path, and each has the node of its path.
use Rattle.std.proofs.Common.{◌≡◌, ◌⊎◌, ℕ, zero, suc, ◌+◌, ◌<◌, ◌≤◌, ◌==◌, ◌&&◌, Bool, true, false, cond, List, [], ◌∷◌, ◌++◌, length, map, Option, None, Some, slice_get, option_and_then, sym, refl, ap, ◌∙◌, inl, inr, ⊎_elim, eqb-true, ne_eqb, length-append, arith}
use Rattle.std.specs.Coded.{Coded}
use Rattle.std.specs.List.{AllByRecursion, flat_map}
use Rattle.storm_values.specs.declared.value.Root.{Root}
use Rattle.counted_items.specs.Weights.{weigh, Within}
use Rattle.counted_items.proofs.Each.{each-append, each-flat_map, each-map, each-weaker, each-any, each-both, each-under, each-every}
use Rattle.counted_items.proofs.Equality.{each-within}
use Rattle.counted_items.proofs.Weighing.{weigh-append, weigh-le, weigh-zero, weigh-map, weigh-flat_map}
use Rattle.tuple_tickets.specs.Paths.{path_eq}
use Rattle.tuple_tickets.specs.Roots.{root_eq}
use Rattle.tuple_tickets.specs.Tickets.{Ticket, Begun, Run, Account, is_begun, is_at, tickets_from, first_tickets, made_by, made_of, issued, IsAccount, IsNode}
use Rattle.tuple_tickets.specs.Trees.{Course, goes, fails, mute, Growth, descendant, node_in, node_at}
use Rattle.tuple_tickets.proofs.Codes.{ticket_code}
use Rattle.tuple_tickets.proofs.Paths.{ends-apart, by_ends, other_path, same_end}

and_assoc : (a b c : Bool) → (a && (b && c)) ≡ ((a && b) && c)
and_assoc true b c = refl
and_assoc false b c = refl

pub and-le : (b c : Bool) → cond (b && c) 1 0 ≤ cond b 1 0
and-le true true = omega arith
and-le true false = omega arith
and-le false c = omega arith

-- whether a root and a path are those
abbrev pub fits : Root → List ℕ → Root → List ℕ → Bool
fits r q root path = root_eq root r && path_eq path q

no_and : (b : Bool) → ◌≡◌ {A = ℕ} (cond (b && false) 1 0) 0
no_and true = refl
no_and false = refl

module _ {N : Type 0} where
  -- ---- tickets below one path

  abbrev pub ticket : Root → List ℕ → ℕ → N → Ticket N
  ticket root path id n = record { root = root; edge = record { path = path; id = id }; node = n }

  pub at_place : (r : Root) (q : List ℕ) (k : ℕ) (root : Root) (path : List ℕ) (j id : ℕ) (n : N) → is_at r (q ++ k ∷ []) (ticket root (path ++ j ∷ []) id n) ≡ cond (fits r q root path && (j == k)) 1 0
  at_place r q k root path j id n = rw (same_end path q j k, and_assoc (root_eq root r) (path_eq path q) (j == k)) refl

  -- from a place past k on there is no ticket at place k
  pub below_past : (r : Root) (q : List ℕ) (k : ℕ) (root : Root) (path : List ℕ) (j : ℕ) (ns : List N) (ids : List ℕ) → k < j → weigh (is_at r (q ++ k ∷ [])) (tickets_from root path j ns ids) ≡ 0
  below_past r q k root path j [] ids later = refl
  below_past r q k root path j (n ∷ ns) [] later = refl
  below_past r q k root path j (n ∷ ns) (id ∷ ids) later =
      let here = at_place r q k root path j id n in
      let apart : (j == k) ≡ false = ne_eqb j k (λ e. omega arith) in
      let none : ◌≡◌ {A = ℕ} (cond (fits r q root path && (j == k)) 1 0) 0 = rw apart (no_and (fits r q root path)) in
      let rest = below_past r q k root path (suc j) ns ids (omega arith) in omega arith

  -- of the tickets below a path at most one is at another, and none where root and path do not fit
  below_one : (r : Root) (q : List ℕ) (k : ℕ) (root : Root) (path : List ℕ) (j : ℕ) (ns : List N) (ids : List ℕ) → weigh (is_at r (q ++ k ∷ [])) (tickets_from root path j ns ids) ≤ cond (fits r q root path) 1 0
  below_one r q k root path j [] ids = omega arith
  below_one r q k root path j (n ∷ ns) [] = omega arith
  below_one r q k root path j (n ∷ ns) (id ∷ ids) = cases (j == k) refl (at_place r q k root path j id n) (below_one r q k root path (suc j) ns ids)
    where
      cases : (b : Bool) → (j == k) ≡ b → is_at r (q ++ k ∷ []) (ticket root (path ++ j ∷ []) id n) ≡ cond (fits r q root path && (j == k)) 1 0
          → weigh (is_at r (q ++ k ∷ [])) (tickets_from root path (suc j) ns ids) ≤ cond (fits r q root path) 1 0
          → is_at r (q ++ k ∷ []) (ticket root (path ++ j ∷ []) id n) + weigh (is_at r (q ++ k ∷ [])) (tickets_from root path (suc j) ns ids) ≤ cond (fits r q root path) 1 0
      cases true is here later =
          let same = eqb-true j k is in
          let rest = below_past r q k root path (suc j) ns ids (omega arith) in
          let few = and-le (fits r q root path) (j == k) in omega arith
      cases false is here later = let none : ◌≡◌ {A = ℕ} (cond (fits r q root path && (j == k)) 1 0) 0 = rw is (no_and (fits r q root path)) in omega arith

  -- no ticket has the empty path
  below_none : (r root : Root) (path : List ℕ) (j : ℕ) (ns : List N) (ids : List ℕ) → weigh (is_at r []) (tickets_from root path j ns ids) ≡ 0
  below_none r root path j [] ids = refl
  below_none r root path j (n ∷ ns) [] = refl
  below_none r root path j (n ∷ ns) (id ∷ ids) =
      let apart = other_path (path ++ j ∷ []) [] (ends-apart path j) in
      let here : is_at r [] (ticket root (path ++ j ∷ []) id n) ≡ 0 = rw apart (no_and (root_eq root r)) in
      let rest = below_none r root path (suc j) ns ids in omega arith

  made_none : (g : Growth N) (r : Root) (u : Run N) → weigh (is_at r []) (made_of g u) ≡ 0
  made_none g r u = elim (g.course u.ticket.root u.ticket.node) as (λ (c : Course). weigh (is_at r []) (made_by c (tickets_from u.ticket.root u.ticket.edge.path 0 (g.kids u.ticket.node) u.ids)) ≡ 0)
      [ goes ↦ below_none r u.ticket.root u.ticket.edge.path 0 (g.kids u.ticket.node) u.ids | fails ↦ refl | mute ↦ refl ]

  made_one : (g : Growth N) (r : Root) (q : List ℕ) (k : ℕ) (u : Run N) → weigh (is_at r (q ++ k ∷ [])) (made_of g u) ≤ is_at r q u.ticket
  made_one g r q k u = elim (g.course u.ticket.root u.ticket.node) as (λ (c : Course). weigh (is_at r (q ++ k ∷ [])) (made_by c (tickets_from u.ticket.root u.ticket.edge.path 0 (g.kids u.ticket.node) u.ids)) ≤ is_at r q u.ticket)
      [ goes ↦ below_one r q k u.ticket.root u.ticket.edge.path 0 (g.kids u.ticket.node) u.ids | fails ↦ omega arith | mute ↦ omega arith ]

  first_one : (g : Growth N) (r : Root) (q : List ℕ) (k : ℕ) (b : Begun) → weigh (is_at r (q ++ k ∷ [])) (first_tickets g b) ≤ cond (fits r q b.root []) 1 0
  first_one g r q k b = below_one r q k b.root [] 0 (g.firsts b.root) b.ids

module _ {N : Type 0} (g : Growth N) (a : Account N) where
  pub issued_weight : (f : Ticket N → ℕ) → weigh f (issued g a) ≡ weigh (λ (b : Begun). weigh f (first_tickets g b)) a.begun + weigh (λ (u : Run N). weigh f (made_of g u)) a.runs
  issued_weight f =
      weigh-append f (flat_map (first_tickets g) a.begun) (flat_map (made_of g) a.runs)
      ∙ (let x = weigh-flat_map f (first_tickets g) a.begun in let y = weigh-flat_map f (made_of g) a.runs in omega arith)

  module _ (account : IsAccount g a) where
    -- what was used is within what was issued
    pub used_within : Within (map (λ (u : Run N). u.ticket) a.runs) (issued g a)
    used_within f = let e = account.balanced f in let m = weigh-map f (λ (u : Run N). u.ticket) a.runs in omega arith

    none_empty : (r : Root) → weigh (is_at r []) (issued g a) ≡ 0
    none_empty r =
        let e = issued_weight (is_at r []) in
        let x = weigh-zero (λ (b : Begun). weigh (is_at r []) (first_tickets g b)) (λ b. below_none r b.root [] 0 (g.firsts b.root) b.ids) a.begun in
        let m = weigh-zero (λ (u : Run N). weigh (is_at r []) (made_of g u)) (made_none g r) a.runs in omega arith

    -- each root and path has one ticket at most
    pub once : (r : Root) (p : List ℕ) → weigh (is_at r p) (issued g a) ≤ 1
    once r = by_ends (λ p. weigh (is_at r p) (issued g a) ≤ 1) (let e = none_empty r in omega arith) more
      where
        more : (q : List ℕ) (k : ℕ) → weigh (is_at r q) (issued g a) ≤ 1 → weigh (is_at r (q ++ k ∷ [])) (issued g a) ≤ 1
        more q k before =
            let e = issued_weight (is_at r (q ++ k ∷ [])) in
            let x = weigh-le (λ (b : Begun). weigh (is_at r (q ++ k ∷ [])) (first_tickets g b)) (λ (b : Begun). cond (fits r q b.root []) 1 0) (first_one g r q k) a.begun in
            let m = weigh-le (λ (u : Run N). weigh (is_at r (q ++ k ∷ [])) (made_of g u)) (λ (u : Run N). is_at r q u.ticket) (made_one g r q k) a.runs in
            let w = account.balanced (is_at r q) in
            let c : (weigh (is_at r q) (issued g a) ≡ 0) ⊎ (weigh (λ (b : Begun). cond (fits r q b.root []) 1 0) a.begun ≡ 0) = sides q in
            ⊎_elim (λ z. let d = weigh-le (λ (b : Begun). cond (fits r q b.root []) 1 0) (is_begun r) (λ b. and-le (root_eq b.root r) (path_eq [] q)) a.begun in let f = account.distinct r in omega arith)
            (λ z. omega arith) c
          where
            sides : (q : List ℕ) → (weigh (is_at r q) (issued g a) ≡ 0) ⊎ (weigh (λ (b : Begun). cond (fits r q b.root []) 1 0) a.begun ≡ 0)
            sides [] = inl (none_empty r)
            sides (x ∷ xs) = inr (weigh-zero (λ (b : Begun). cond (fits r (x ∷ xs) b.root []) 1 0) (λ b. elim (root_eq b.root r) as (λ (t : Bool). ◌≡◌ {A = ℕ} (cond (t && path_eq [] (x ∷ xs)) 1 0) 0) [ true ↦ refl | false ↦ refl ]) a.begun)

-- ---- nodes

pub and_then-some : {X : Type 0} (o : Option X) → option_and_then (λ x. Some x) o ≡ o
and_then-some None = refl
and_then-some (Some x) = refl

module _ {N : Type 0} (kids : N → List N) where
  descendant-push : (n : N) (path : List ℕ) (j : ℕ) → descendant kids n (path ++ j ∷ []) ≡ option_and_then (λ m. slice_get (kids m) j) (descendant kids n path)
  descendant-push n [] j = and_then-some (slice_get (kids n) j)
  descendant-push n (i ∷ path) j =
      elim (slice_get (kids n) i) as (λ o. option_and_then (λ kid. descendant kids kid (path ++ j ∷ [])) o ≡ option_and_then (λ m. slice_get (kids m) j) (option_and_then (λ kid. descendant kids kid path) o)) [
        | None ↦ refl
        | Some kid ↦ descendant-push kid path j
      ]

  -- a path leads on to a child
  pub node_in-push : (firsts : List N) (i : ℕ) (path : List ℕ) (j : ℕ) → node_in kids firsts ((i ∷ path) ++ j ∷ []) ≡ option_and_then (λ m. slice_get (kids m) j) (node_in kids firsts (i ∷ path))
  node_in-push firsts i path j =
      elim (slice_get firsts i) as (λ o. option_and_then (λ n. descendant kids n (path ++ j ∷ [])) o ≡ option_and_then (λ m. slice_get (kids m) j) (option_and_then (λ n. descendant kids n path) o)) [
        | None ↦ refl
        | Some n ↦ descendant-push n path j
      ]

module _ {N : Type 0} (g : Growth N) where
  pub node_at-push : (r : Root) (i : ℕ) (path : List ℕ) (j : ℕ) → node_at g r ((i ∷ path) ++ j ∷ []) ≡ option_and_then (λ m. slice_get (g.kids m) j) (node_at g r (i ∷ path))
  node_at-push r = node_in-push g.kids (g.firsts r)

  -- a node at a longer path is a child of a node at the path
  pub led : (r : Root) (i : ℕ) (q : List ℕ) (k : ℕ) (n : N) → node_at g r ((i ∷ q) ++ k ∷ []) ≡ Some n → (m : N) × (node_at g r (i ∷ q) ≡ Some m) × (slice_get (g.kids m) k ≡ Some n)
  led r i q k n there = taken (node_at g r (i ∷ q)) refl (sym (node_at-push r i q k) ∙ there)
    where
      taken : (o : Option N) → node_at g r (i ∷ q) ≡ o → option_and_then (λ m. slice_get (g.kids m) k) o ≡ Some n → (m : N) × (node_at g r (i ∷ q) ≡ Some m) × (slice_get (g.kids m) k ≡ Some n)
      taken None is found = absurd (cc)
      taken (Some m) is found = (m, is, found)

  -- tickets below a path, where place i from j on finds the node
  below_nodes : (root : Root) (path : List ℕ) (all : List N) → ((j : ℕ) (n : N) → slice_get all j ≡ Some n → node_at g root (path ++ j ∷ []) ≡ Some n) → (j : ℕ) (ns : List N) (ids : List ℕ) → ((i : ℕ) → slice_get all (i + j) ≡ slice_get ns i)
      → AllByRecursion (IsNode g) (tickets_from root path j ns ids)
  below_nodes root path all found j [] ids there = tt
  below_nodes root path all found j (n ∷ ns) [] there = tt
  below_nodes root path all found j (n ∷ ns) (id ∷ ids) there = (
    found j n (ap (slice_get all) (omega arith) ∙ there 0),
    below_nodes root path all found (suc j) ns ids (λ i. ap (slice_get all) (omega arith) ∙ there (suc i)),
  )

  first_nodes : (b : Begun) → AllByRecursion (IsNode g) (first_tickets g b)
  first_nodes b = below_nodes b.root [] (g.firsts b.root) (λ j n found. rw found refl) 0 (g.firsts b.root) b.ids (λ i. ap (slice_get (g.firsts b.root)) (omega arith))

  child_nodes : (u : Run N) → IsNode g u.ticket → AllByRecursion (IsNode g) (made_of g u)
  child_nodes u here =
      elim (g.course u.ticket.root u.ticket.node) as (λ (c : Course). AllByRecursion (IsNode g) (made_by c (tickets_from u.ticket.root u.ticket.edge.path 0 (g.kids u.ticket.node) u.ids)))
      [ goes ↦ below_nodes u.ticket.root u.ticket.edge.path (g.kids u.ticket.node) (to u.ticket.edge.path here) 0 (g.kids u.ticket.node) u.ids (λ i. ap (slice_get (g.kids u.ticket.node)) (omega arith)) | fails ↦ tt | mute ↦ tt ]
    where
      to : (path : List ℕ) → node_at g u.ticket.root path ≡ Some u.ticket.node → (j : ℕ) (n : N) → slice_get (g.kids u.ticket.node) j ≡ Some n → node_at g u.ticket.root (path ++ j ∷ []) ≡ Some n
      to [] here j n found = absurd (cc)
      to (i ∷ path) here j n found = node_at-push u.ticket.root i path j ∙ rw (here, found) refl

  -- the paths of the tickets below a path are one longer
  abbrev IsLonger : List ℕ → Ticket N → Type 0
  IsLonger path t = length t.edge.path ≡ suc (length path)

  below_long : (root : Root) (path : List ℕ) (j : ℕ) (ns : List N) (ids : List ℕ) → AllByRecursion (IsLonger path) (tickets_from root path j ns ids)
  below_long root path j [] ids = tt
  below_long root path j (n ∷ ns) [] = tt
  below_long root path j (n ∷ ns) (id ∷ ids) = (omega (arith, length-append path (j ∷ [])), below_long root path (suc j) ns ids)

  made_long : (u : Run N) → AllByRecursion (IsLonger u.ticket.edge.path) (made_of g u)
  made_long u = elim (g.course u.ticket.root u.ticket.node) as (λ (c : Course). AllByRecursion (IsLonger u.ticket.edge.path) (made_by c (tickets_from u.ticket.root u.ticket.edge.path 0 (g.kids u.ticket.node) u.ids)))
      [ goes ↦ below_long u.ticket.root u.ticket.edge.path 0 (g.kids u.ticket.node) u.ids | fails ↦ tt | mute ↦ tt ]

  module _ (coded : Coded N) (a : Account N) (account : IsAccount g a) where
    abbrev IsNodeAt : ℕ → Ticket N → Type 0
    IsNodeAt long t = length t.edge.path ≡ long → IsNode g t

    from_runs : (long : ℕ) → AllByRecursion (λ (u : Run N). AllByRecursion (IsNodeAt long) (made_of g u)) a.runs → AllByRecursion (IsNodeAt long) (issued g a)
    from_runs long made =
        each-append (IsNodeAt long) (flat_map (first_tickets g) a.begun) (flat_map (made_of g) a.runs)
        (each-flat_map (IsNodeAt long) (first_tickets g) a.begun (each-any (λ (b : Begun). AllByRecursion (IsNodeAt long) (first_tickets g b)) (λ b. each-weaker (IsNode g) (IsNodeAt long) (λ t is _. is) (first_tickets g b) (first_nodes b)) a.begun))
        (each-flat_map (IsNodeAt long) (made_of g) a.runs made)

    nodes_at : (long : ℕ) → AllByRecursion (IsNodeAt long) (issued g a)
    nodes_at zero = from_runs zero (each-any (λ (u : Run N). AllByRecursion (IsNodeAt zero) (made_of g u)) (λ u. each-weaker (IsLonger u.ticket.edge.path) (IsNodeAt zero) (λ t long none. absurd (omega arith)) (made_of g u) (made_long u)) a.runs)
    nodes_at (suc long) =
        let used = each-within (ticket_code coded) (IsNodeAt long) (map (λ (u : Run N). u.ticket) a.runs) (issued g a) (used_within g a account) (nodes_at long) in
        from_runs (suc long) (each-weaker (λ (u : Run N). IsNodeAt long u.ticket) (λ (u : Run N). AllByRecursion (IsNodeAt (suc long)) (made_of g u))
        (λ u before. each-weaker (λ (t : Ticket N). IsLonger u.ticket.edge.path t × (IsNode g u.ticket → IsNode g t)) (IsNodeAt (suc long)) (λ t both is. both.1 (before (let x = both.0 in omega arith))) (made_of g u)
        (each-both (IsLonger u.ticket.edge.path) (λ (t : Ticket N). IsNode g u.ticket → IsNode g t) (made_of g u) (made_long u) (each-under (IsNode g u.ticket) (IsNode g) (made_of g u) (child_nodes u)))) a.runs (each-map (IsNodeAt long) (λ (u : Run N). u.ticket) a.runs used))

    -- each issued ticket has the node of its path
    pub nodes : AllByRecursion (IsNode g) (issued g a)
    nodes = each-every (λ (t : Ticket N). length t.edge.path) (IsNode g) (issued g a) nodes_at

    -- and so has each used ticket
    pub used_nodes : AllByRecursion (λ (u : Run N). IsNode g u.ticket) a.runs
    used_nodes = each-map (IsNode g) (λ (u : Run N). u.ticket) a.runs (each-within (ticket_code coded) (IsNode g) (map (λ (u : Run N). u.ticket) a.runs) (issued g a) (used_within g a account) nodes)
