-- The stack of the edges that were seen an odd number of times.
use Rattle.std.proofs.Common.{◌≡◌, ◌≤◌, ◌⊎◌, inl, inr, ℕ, suc, ◌+◌, ◌%◌, ◌-◌, length, take, length-append, ◌<◌, get_or, Option, Some, Bool, true, false, cond, true≢false, List, [], ◌∷◌, ◌++◌, sym, refl, ap, subst, ◌∙◌, arith}
use Rattle.std.specs.Prelude.{slice_get, IsPermutation}
use Rattle.std.specs.List.{AllByRecursion}
use Rattle.std.specs.List.Sorted.{IsStrictlySortedBy}
use Rattle.std.specs.Ordering.{is_eq, is_gt, is_lt, ordering_reverse}
use Rattle.std.specs.declared.cmp.Ordering.{Ordering}
use Rattle.std.specs.declared.cmp.Ordering.TheVariants.{Less, Equal, Greater}
use Rattle.tree_model.proofs.counted_items.Weighing.{weigh-push}
use Rattle.tree_model.proofs.counted_items.Sums.{same-IsPermutation}
use Rattle.tree_model.specs.tuple_tickets.declared.edge.Edge.{Edge}
use Rattle.tree_model.specs.tuple_tickets.Edges.{edge_cmp, edge_eq, is_edge, times}
use Rattle.tree_model.proofs.tuple_tickets.EdgeOrder.{edge_cmp-total, edge_cmp-apart}
use Rattle.tree_model.proofs.tuple_tickets.Toggles.{same_edge}
use Rattle.acker_core.specs.Edges.{AreLeft, AreInOrder, top_is, put_on}

own_reverse : (o : Ordering) → o ≡ ordering_reverse o → o ≡ Equal
own_reverse Less same = cc
own_reverse Equal same = refl
own_reverse Greater same = cc

edge_cmp-refl : (x : Edge) → edge_cmp x x ≡ Equal
edge_cmp-refl x = own_reverse (edge_cmp x x) (edge_cmp-total.antisymm x x)

-- ---- counts

-- an edge that stands above another is another
missed : (x y e : Edge) → edge_cmp x y ≡ Less → x ≡ e → is_edge e y ≡ 0
missed x y e below is = cases (edge_eq y e) refl
  where
    cases : (b : Bool) → edge_eq y e ≡ b → is_edge e y ≡ 0
    cases true same =
        let one : x ≡ y = is ∙ sym (same_edge y e same) in
        let wrong : Equal ≡ Less = sym (edge_cmp-refl x) ∙ ap (edge_cmp x) one ∙ below in cc
    cases false same = ap (λ (b : Bool). cond {A = ℕ} b 1 0) same

-- ---- order

strict-front : (xs : List Edge) (y : Edge) → IsStrictlySortedBy edge_cmp (xs ++ y ∷ []) → IsStrictlySortedBy edge_cmp xs × AllByRecursion (λ (x : Edge). edge_cmp x y ≡ Less) xs
unfolding IsStrictlySortedBy
strict-front [] y up = (tt, tt)
strict-front (x ∷ xs) y up = let rest = strict-front xs y up.1 in ((front xs up.0, rest.0), (last xs up.0, rest.1))
  where
    front : (zs : List Edge) → AllByRecursion (λ (z : Edge). edge_cmp x z ≡ Less) (zs ++ y ∷ []) → AllByRecursion (λ (z : Edge). edge_cmp x z ≡ Less) zs
    front [] all = tt
    front (z ∷ zs) all = (all.0, front zs all.1)

    last : (zs : List Edge) → AllByRecursion (λ (z : Edge). edge_cmp x z ≡ Less) (zs ++ y ∷ []) → edge_cmp x y ≡ Less
    last [] all = all.0
    last (z ∷ zs) all = last zs all.1

strict-end : (xs : List Edge) (y : Edge) → IsStrictlySortedBy edge_cmp xs → AllByRecursion (λ (x : Edge). edge_cmp x y ≡ Less) xs → IsStrictlySortedBy edge_cmp (xs ++ y ∷ [])
unfolding IsStrictlySortedBy
strict-end [] y up all = (tt, tt)
strict-end (x ∷ xs) y up all = (more xs up.0, strict-end xs y up.1 all.1)
  where
    more : (zs : List Edge) → AllByRecursion (λ (z : Edge). edge_cmp x z ≡ Less) zs → AllByRecursion (λ (z : Edge). edge_cmp x z ≡ Less) (zs ++ y ∷ [])
    more [] here = (all.0, tt)
    more (z ∷ zs) here = (here.0, more zs here.1)

-- an edge stands once at most in a strict list
once : (e : Edge) (xs : List Edge) → IsStrictlySortedBy edge_cmp xs → times e xs ≤ 1
unfolding IsStrictlySortedBy
once e [] up = omega arith
once e (x ∷ xs) up = cases (edge_eq x e) refl (once e xs up.1)
  where
    none : (zs : List Edge) → AllByRecursion (λ (z : Edge). edge_cmp x z ≡ Less) zs → x ≡ e → times e zs ≡ 0
    none [] all is = refl
    none (z ∷ zs) all is =
        let miss : is_edge e z ≡ 0 = missed x z e all.0 is in
        let rest : times e zs ≡ 0 = none zs all.1 is in omega arith

    cases : (b : Bool) → edge_eq x e ≡ b → times e xs ≤ 1 → times e (x ∷ xs) ≤ 1
    cases true same few =
        let z : times e xs ≡ 0 = none xs up.0 (same_edge x e same) in
        let h : is_edge e x ≡ 1 = ap (λ (b : Bool). cond {A = ℕ} b 1 0) same in omega arith
    cases false same few = let h : is_edge e x ≡ 0 = ap (λ (b : Bool). cond {A = ℕ} b 1 0) same in omega arith

-- ---- the pass

pub record Kept (all rest left : List Edge) : Type 0 where
  pub strict : IsStrictlySortedBy edge_cmp left
  pub below : AllByRecursion (λ (x : Edge). AllByRecursion (λ (y : Edge). is_gt (edge_cmp x y) ≡ false) rest) left
  pub order : AreInOrder rest
  pub parity : (e : Edge) → (times e left + times e rest) % 2 ≡ times e all % 2

ends : (xs : List Edge) → (xs ≡ []) ⊎ ((front : List Edge) × (top : Edge) × (xs ≡ front ++ top ∷ []))
ends [] = inl refl
ends (x ∷ xs) = inr (more x xs)
  where
    more : (y : Edge) (ys : List Edge) → (front : List Edge) × (top : Edge) × (y ∷ ys ≡ front ++ top ∷ [])
    more y [] = ([], y, refl)
    more y (z ∷ zs) = let rest = more z zs in (y ∷ rest.0, rest.1, ap (λ ws. y ∷ ws) rest.2)

all-front : (P : Edge → Type 0) (xs : List Edge) (y : Edge) → AllByRecursion P (xs ++ y ∷ []) → AllByRecursion P xs × P y
all-front P [] y all = (tt, all.0)
all-front P (x ∷ xs) y all = let rest = all-front P xs y all.1 in ((all.0, rest.0), rest.1)

all-end : (P : Edge → Type 0) (xs : List Edge) (y : Edge) → AllByRecursion P xs → P y → AllByRecursion P (xs ++ y ∷ [])
all-end P [] y all here = (here, tt)
all-end P (x ∷ xs) y all here = (all.0, all-end P xs y all.1 here)

tails : (e : Edge) (rest xs : List Edge) → AllByRecursion (λ (x : Edge). AllByRecursion (λ (y : Edge). is_gt (edge_cmp x y) ≡ false) (e ∷ rest)) xs → AllByRecursion (λ (x : Edge). AllByRecursion (λ (y : Edge). is_gt (edge_cmp x y) ≡ false) rest) xs
tails e rest [] all = tt
tails e rest (x ∷ xs) all = (all.0.1, tails e rest xs all.1)

through : (top e : Edge) (xs : List Edge) → AllByRecursion (λ (x : Edge). edge_cmp x top ≡ Less) xs → edge_cmp top e ≡ Less → AllByRecursion (λ (x : Edge). edge_cmp x e ≡ Less) xs
through top e [] all up = tt
through top e (x ∷ xs) all up = (edge_cmp-total.trans x top e all.0 up, through top e xs all.1 up)

strict-none : IsStrictlySortedBy edge_cmp []
unfolding IsStrictlySortedBy
strict-none = tt

pub kept-first : (all : List Edge) → AreInOrder all → Kept all all []
kept-first all order = record { strict = strict-none; below = tt; order = order; parity = λ e. ap (λ (k : ℕ). k % 2) (let n : times e [] + times e all ≡ times e all = omega arith in n) }

get-last : (front : List Edge) (top : Edge) → slice_get (front ++ top ∷ []) (length (front ++ top ∷ []) - 1) ≡ Some top
get-last front top = ap (slice_get (front ++ top ∷ [])) (let len = length-append front (top ∷ []) in let e : length (front ++ top ∷ []) - 1 ≡ length front = omega arith in e) ∙ at front
  where
    at : (xs : List Edge) → slice_get (xs ++ top ∷ []) (length xs) ≡ Some top
    at [] = refl
    at (x ∷ xs) = at xs

take-last : (front : List Edge) (top : Edge) → take (length (front ++ top ∷ []) - 1) (front ++ top ∷ []) ≡ front
take-last front top = ap (λ (k : ℕ). take k (front ++ top ∷ [])) (let len = length-append front (top ∷ []) in let e : length (front ++ top ∷ []) - 1 ≡ length front = omega arith in e) ∙ at front
  where
    at : (xs : List Edge) → take (length xs) (xs ++ top ∷ []) ≡ xs
    at [] = refl
    at (x ∷ xs) = ap (λ ys. x ∷ ys) (at xs)

pops : (all rest front : List Edge) (top e : Edge) → Kept all (e ∷ rest) (front ++ top ∷ []) → edge_cmp top e ≡ Equal → Kept all rest front
pops all rest front top e kept same = record {
  strict = (strict-front front top kept.strict).0;
  below = tails e rest front (all-front _ front top kept.below).0;
  order = kept.order.1;
  parity = λ x.
      let a : times x (front ++ top ∷ []) ≡ times x front + is_edge x top = weigh-push (is_edge x) front top in
      let c : is_edge x top ≡ is_edge x e = ap (is_edge x) (edge_cmp-apart top e same) in
      let b : times x (e ∷ rest) ≡ is_edge x e + times x rest = refl in
      let p = kept.parity x in omega arith;
}

pushes : (all rest left : List Edge) (e : Edge) → Kept all (e ∷ rest) left → AllByRecursion (λ (x : Edge). edge_cmp x e ≡ Less) left → Kept all rest (left ++ e ∷ [])
pushes all rest left e kept below = record {
  strict = strict-end left e kept.strict below;
  below = all-end _ left e (tails e rest left kept.below) kept.order.0;
  order = kept.order.1;
  parity = λ x.
      let a : times x (left ++ e ∷ []) ≡ times x left + is_edge x e = weigh-push (is_edge x) left e in
      let b : times x (e ∷ rest) ≡ is_edge x e + times x rest = refl in
      let p = kept.parity x in
      let n : times x (left ++ e ∷ []) + times x rest ≡ times x left + times x (e ∷ rest) = omega arith in ap (λ (k : ℕ). k % 2) n ∙ p;
}

-- one edge more
pub kept-more : (all rest left : List Edge) (e : Edge) → Kept all (e ∷ rest) left → Kept all rest (put_on left e)
kept-more all rest left e kept = by_ends (ends left)
  where
    above : (front : List Edge) (top : Edge) → Kept all (e ∷ rest) (front ++ top ∷ []) → Kept all rest (put_on (front ++ top ∷ []) e)
    above front top now = cases (edge_cmp top e) refl
      where
        put_is : (o : Ordering) → edge_cmp top e ≡ o → put_on (front ++ top ∷ []) e ≡ cond (is_eq o) (take (length (front ++ top ∷ []) - 1) (front ++ top ∷ [])) ((front ++ top ∷ []) ++ e ∷ [])
        put_is o is = ap (λ (b : Bool). cond b (take (length (front ++ top ∷ []) - 1) (front ++ top ∷ [])) ((front ++ top ∷ []) ++ e ∷ [])) (ap (λ (f : Option Edge). top_is f e) (get-last front top) ∙ ap is_eq is)

        cases : (o : Ordering) → edge_cmp top e ≡ o → Kept all rest (put_on (front ++ top ∷ []) e)
        cases Equal is =
            let eq : put_on (front ++ top ∷ []) e ≡ front = put_is Equal is ∙ take-last front top in subst (Kept all rest) (sym eq) (pops all rest front top e now is)
        cases Less is =
            let low = (strict-front front top now.strict).1 in
            subst (Kept all rest) (sym (put_is Less is)) (pushes all rest (front ++ top ∷ []) e now (all-end (λ (x : Edge). edge_cmp x e ≡ Less) front top (through top e front low is) is))
        cases Greater is =
            let fine = (all-front (λ (x : Edge). AllByRecursion (λ (y : Edge). is_gt (edge_cmp x y) ≡ false) (e ∷ rest)) front top now.below).1.0 in
            absurd (true≢false (sym (ap is_gt is) ∙ fine))

    by_ends : (left ≡ []) ⊎ ((front : List Edge) × (top : Edge) × (left ≡ front ++ top ∷ [])) → Kept all rest (put_on left e)
    by_ends (inl none) = subst (λ (xs : List Edge). Kept all rest (put_on xs e)) (sym none) (pushes all rest [] e (subst (Kept all (e ∷ rest)) none kept) tt)
    by_ends (inr x) = subst (λ (xs : List Edge). Kept all rest (put_on xs e)) (sym x.2) (above x.0 x.1 (subst (Kept all (e ∷ rest)) x.2 kept))

pub kept-last : (all left : List Edge) → Kept all [] left → AreLeft all left
kept-last all left kept = record {
  odd = λ e. let p = kept.parity e in let o = once e left kept.strict in let z : times e [] ≡ 0 = refl in omega arith;
  ordered = kept.strict;
}

-- the same edges in another order leave the same
pub left-permuted : (all sorted left : List Edge) → IsPermutation all sorted → AreLeft sorted left → AreLeft all left
left-permuted all sorted left same are = record {
  odd = λ e. are.odd e ∙ ap (λ (k : ℕ). k % 2) (sym (same-IsPermutation all sorted same (is_edge e)));
  ordered = are.ordered;
}

-- ---- from the sort's words

turned_back : (o : Ordering) → is_lt o ≡ false → is_gt (ordering_reverse o) ≡ false
turned_back Less is = absurd (true≢false is)
turned_back Equal is = refl
turned_back Greater is = refl

pub in-order : (xs : List Edge) → ((i j : ℕ) (d : Edge) → i ≤ j → j < length xs → is_lt (edge_cmp (get_or xs j d) (get_or xs i d)) ≡ false) → AreInOrder xs
in-order [] up = tt
in-order (x ∷ xs) up = (each xs (λ j below. up 0 (suc j) x (omega arith) (omega arith)), in-order xs (λ i j d le below. up (suc i) (suc j) d (omega arith) (omega arith)))
  where
    each : (zs : List Edge) → ((j : ℕ) → j < length zs → is_lt (edge_cmp (get_or zs j x) x) ≡ false) → AllByRecursion (λ (y : Edge). is_gt (edge_cmp x y) ≡ false) zs
    each [] low = tt
    each (y ∷ ys) low = (ap is_gt (edge_cmp-total.antisymm x y) ∙ turned_back (edge_cmp y x) (low 0 (omega arith)), each ys (λ j below. low (suc j) (omega arith)))
