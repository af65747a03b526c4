-- The open edges of a list, by toggling each edge.
use Rattle.std.proofs.Common.{◌≡◌, ℕ, ◌+◌, ◌%◌, ◌≤◌, ◌==◌, Bool, true, false, cond, true≢false, bit_xor, List, [], ◌∷◌, ◌++◌, Contains, subst, sym, refl, ap, ◌∙◌, eqb-true, eq-eqb, arith}
use Rattle.std.proofs.lemmas.List.Elements.{All-contains_itself, recursion_from_All}
use Rattle.std.proofs.lemmas.Nat.{xor_comm}
use Rattle.std.specs.List.{AllByRecursion}
use Rattle.std.specs.Int.Bits.{xor_assoc, xor_self, xor_zero_l, xor_zero_r}
use Rattle.counted_items.specs.Weights.{weigh}
use Rattle.counted_items.proofs.Equality.{and-true}
use Rattle.counted_items.proofs.Weighing.{weigh-append}
use Rattle.tuple_tickets.specs.declared.edge.Edge.{Edge}
use Rattle.tuple_tickets.specs.Edges.{edge_eq, is_edge, times, xor_ids}
use Rattle.tuple_tickets.specs.Paths.{path_eq}
use Rattle.tuple_tickets.proofs.Paths.{same_path, path_itself}

pub same_edge : (a b : Edge) → edge_eq a b ≡ true → a ≡ b
same_edge a b e =
    let both = and-true (path_eq a.path b.path) (a.id == b.id) e in
    let p = same_path a.path b.path both.0 in
    let q = eqb-true a.id b.id both.1 in λ i. record { path = p i; id = q i }

pub edge_itself : (e : Edge) → edge_eq e e ≡ true
edge_itself e = rw (path_itself e.path, eq-eqb e.id e.id refl) refl

edges_flip : (a b : Edge) → edge_eq a b ≡ false → edge_eq b a ≡ false
edges_flip a b e = elim (edge_eq b a) as (λ (t : Bool). (t ≡ true → b ≡ a) → t ≡ false) [ true ↦ λ same. absurd (true≢false (sym (edge_itself a) ∙ ap (edge_eq a) (sym (same refl)) ∙ e)) | false ↦ λ same. refl ] (same_edge b a)

-- the edge goes away if it is there, and comes else
abbrev pub toggle : Edge → List Edge → List Edge
toggle e [] = e ∷ []
toggle e (x ∷ xs) = cond (edge_eq e x) xs (x ∷ toggle e xs)

-- what is left when each edge was toggled
abbrev pub left_of : List Edge → List Edge
left_of [] = []
left_of (e ∷ es) = toggle e (left_of es)

-- a toggle changes the ids' XOR by its id
xor-toggle : (e : Edge) (xs : List Edge) → xor_ids (toggle e xs) ≡ bit_xor e.id (xor_ids xs)
xor-toggle e [] = refl
xor-toggle e (x ∷ xs) = cases (edge_eq e x) refl (xor-toggle e xs)
  where
    cases : (b : Bool) → edge_eq e x ≡ b → xor_ids (toggle e xs) ≡ bit_xor e.id (xor_ids xs) → xor_ids (cond b xs (x ∷ toggle e xs)) ≡ bit_xor e.id (bit_xor x.id (xor_ids xs))
    cases true is later =
        let same : e.id ≡ x.id = ap (λ (y : Edge). y.id) (same_edge e x is) in
        sym (rw same (sym (xor_assoc x.id x.id (xor_ids xs)) ∙ ap (λ (n : ℕ). bit_xor n (xor_ids xs)) (xor_self x.id) ∙ xor_zero_l (xor_ids xs)))
    cases false is later =
        ap (bit_xor x.id) later ∙ sym (xor_assoc x.id e.id (xor_ids xs)) ∙ ap (λ (n : ℕ). bit_xor n (xor_ids xs)) (xor_comm x.id e.id) ∙ xor_assoc e.id x.id (xor_ids xs)

-- the XOR of all ids is that of what is left
pub xor-left_of : (es : List Edge) → xor_ids es ≡ xor_ids (left_of es)
xor-left_of [] = refl
xor-left_of (e ∷ es) = ap (bit_xor e.id) (xor-left_of es) ∙ sym (xor-toggle e (left_of es))

-- a toggle changes each count by one, up to twos
weigh-toggle : (f : Edge → ℕ) (e : Edge) (xs : List Edge) → weigh f (toggle e xs) % 2 ≡ (f e + weigh f xs) % 2
weigh-toggle f e [] = refl
weigh-toggle f e (x ∷ xs) = cases (edge_eq e x) refl (weigh-toggle f e xs)
  where
    cases : (b : Bool) → edge_eq e x ≡ b → weigh f (toggle e xs) % 2 ≡ (f e + weigh f xs) % 2 → weigh f (cond b xs (x ∷ toggle e xs)) % 2 ≡ (f e + (f x + weigh f xs)) % 2
    cases true is later = let same : f e ≡ f x = ap f (same_edge e x is) in omega arith
    cases false is later = omega arith

-- counts of all edges and of what is left differ by twos
pub weigh-left_of : (f : Edge → ℕ) (es : List Edge) → weigh f es % 2 ≡ weigh f (left_of es) % 2
weigh-left_of f [] = refl
weigh-left_of f (e ∷ es) = let rest = weigh-left_of f es in let here = weigh-toggle f e (left_of es) in omega arith

-- ---- each edge is left once at most

-- a toggle of another edge leaves the count of an edge
toggle-other : (e x : Edge) → edge_eq x e ≡ false → (xs : List Edge) → times e (toggle x xs) ≡ times e xs
toggle-other e x apart [] = rw apart refl
toggle-other e x apart (y ∷ xs) = cases (edge_eq x y) refl (toggle-other e x apart xs)
  where
    cases : (b : Bool) → edge_eq x y ≡ b → times e (toggle x xs) ≡ times e xs → times e (cond b xs (y ∷ toggle x xs)) ≡ is_edge e y + times e xs
    cases true is later = let none : edge_eq y e ≡ false = rw (← same_edge x y is) apart in rw none (omega arith)
    cases false is later = omega arith

-- a toggle adds an edge that is not there, and takes one away that is
toggle-same : (e : Edge) (xs : List Edge) → times e xs ≤ 1 → times e (toggle e xs) + times e xs ≡ 1
toggle-same e [] few = rw (edge_itself e) refl
toggle-same e (y ∷ xs) few = cases (edge_eq e y) refl few (toggle-same e xs)
  where
    cases : (b : Bool) → edge_eq e y ≡ b → is_edge e y + times e xs ≤ 1 → (times e xs ≤ 1 → times e (toggle e xs) + times e xs ≡ 1) → times e (cond b xs (y ∷ toggle e xs)) + (is_edge e y + times e xs) ≡ 1
    cases true is few later = let one : is_edge e y ≡ 1 = rw (← same_edge e y is, edge_itself e) refl in omega arith
    cases false is few later = let none : is_edge e y ≡ 0 = rw (edges_flip e y is) refl in let rest = later (omega arith) in omega arith

left_once : (es : List Edge) (e : Edge) → times e (left_of es) ≤ 1
left_once [] e = omega arith
left_once (x ∷ es) e = cases (edge_eq x e) refl (left_once es e)
  where
    cases : (b : Bool) → edge_eq x e ≡ b → times e (left_of es) ≤ 1 → times e (toggle x (left_of es)) ≤ 1
    cases true is few = let t = toggle-same e (left_of es) few in rw (same_edge x e is) (omega arith)
    cases false is few = let t = toggle-other e x is (left_of es) in omega arith

-- what is left are the edges that occur an odd number of times, each once
pub times-left_of : (es : List Edge) (e : Edge) → times e (left_of es) ≡ times e es % 2
times-left_of es e = let w = weigh-left_of (is_edge e) es in let f = left_once es e in omega arith

-- a list without edges is empty
pub none-left : (left : List Edge) → ((e : Edge) → times e left ≡ 0) → left ≡ []
none-left [] zero_each = refl
none-left (e ∷ left) zero_each = let z = zero_each e in let one : is_edge e e ≡ 1 = rw (edge_itself e) refl in absurd (omega arith)

pub xor-append : (xs ys : List Edge) → xor_ids (xs ++ ys) ≡ bit_xor (xor_ids xs) (xor_ids ys)
xor-append [] ys = sym (xor_zero_l (xor_ids ys))
xor-append (x ∷ xs) ys = ap (bit_xor x.id) (xor-append xs ys) ∙ sym (xor_assoc x.id (xor_ids xs) (xor_ids ys))

one_number : (a b : ℕ) → bit_xor a b ≡ 0 → a ≡ b
one_number a b none = sym (xor_zero_r a) ∙ ap (bit_xor a) (sym (xor_self b)) ∙ sym (xor_assoc a b b) ∙ ap (λ (n : ℕ). bit_xor n b) none ∙ xor_zero_l b

-- lists that have each edge as often, up to twos, have one XOR of ids
pub xor-same : (xs ys : List Edge) → ((e : Edge) → times e xs % 2 ≡ times e ys % 2) → xor_ids xs ≡ xor_ids ys
xor-same xs ys each = one_number (xor_ids xs) (xor_ids ys) (sym (xor-append xs ys) ∙ xor-left_of (xs ++ ys) ∙ ap xor_ids nothing)
  where
    nothing : left_of (xs ++ ys) ≡ []
    nothing = none-left (left_of (xs ++ ys)) (λ e. let l = times-left_of (xs ++ ys) e in let a = weigh-append (is_edge e) xs ys in let z = each e in omega arith)

-- an edge stands in a list where it is counted there
among : (es : List Edge) (e : Edge) (xs : List Edge) → AllByRecursion (Contains es) xs → 1 ≤ times e xs → Contains es e
among es e [] all none = absurd (omega arith)
among es e (x ∷ xs) all there = cases (edge_eq x e) refl there (among es e xs all.1)
  where
    cases : (b : Bool) → edge_eq x e ≡ b → 1 ≤ cond b 1 0 + times e xs → (1 ≤ times e xs → Contains es e) → Contains es e
    cases true is more later = subst (Contains es) (same_edge x e is) all.0
    cases false is more later = later (omega arith)

pub edge_among : (e : Edge) (es : List Edge) → 1 ≤ times e es → Contains es e
edge_among e es some = among es e es (recursion_from_All (Contains es) es (All-contains_itself es)) some
