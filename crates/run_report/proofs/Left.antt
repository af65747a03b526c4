-- The edges that occur an odd number of times, in order, are one list.
use Rattle.std.proofs.Common.{◌≡◌, ℕ, Bool, true, false, cond, List, [], ◌∷◌, sym, refl, ap, ◌∙◌, arith}
use Rattle.std.specs.List.{AllByRecursion}
use Rattle.std.specs.List.Sorted.{IsStrictlySortedBy}
use Rattle.std.specs.Ordering.{ordering_reverse}
use Rattle.std.specs.declared.cmp.Ordering.{Ordering}
use Rattle.std.specs.declared.cmp.Ordering.TheVariants.{Less, Equal, Greater}
use Rattle.tree_model.specs.tuple_tickets.declared.edge.Edge.{Edge}
use Rattle.tree_model.specs.tuple_tickets.Edges.{edge_cmp, edge_eq, is_edge, times}
use Rattle.tree_model.proofs.tuple_tickets.EdgeOrder.{edge_cmp-total, edge_cmp-apart}
use Rattle.tree_model.proofs.tuple_tickets.Toggles.{same_edge, edge_itself, none-left}
use Rattle.acker_core.specs.Edges.{AreLeft}

is_itself : (e : Edge) → is_edge e e ≡ 1
is_itself e = rw (edge_itself e) refl

own_reverse : (o : Ordering) → o ≡ ordering_reverse o → o ≡ Equal
own_reverse Less same = cc
own_reverse Equal same = refl
own_reverse Greater same = cc

edge_cmp-refl : (x : Edge) → edge_cmp x x ≡ Equal
edge_cmp-refl x = own_reverse (edge_cmp x x) (edge_cmp-total.antisymm x x)

-- an edge that stands below another is another
missed : (x y : Edge) → edge_cmp x y ≡ Less → is_edge x y ≡ 0
missed x y below = cases (edge_eq y x) refl
  where
    cases : (b : Bool) → edge_eq y x ≡ b → is_edge x y ≡ 0
    cases true same =
        let wrong : Equal ≡ Less = sym (edge_cmp-refl x) ∙ ap (edge_cmp x) (sym (same_edge y x same)) ∙ below in cc
    cases false same = ap (λ (b : Bool). cond {A = ℕ} b 1 0) same

-- an edge below all others is none of them
none_of : (x : Edge) (ys : List Edge) → AllByRecursion (λ (y : Edge). edge_cmp x y ≡ Less) ys → times x ys ≡ 0
none_of x [] below = refl
none_of x (y ∷ ys) below =
    let here : is_edge x y ≡ 0 = missed x y below.0 in
    let rest : times x ys ≡ 0 = none_of x ys below.1 in omega arith

-- what is below the first of a strict list is below all
below_all : (x y : Edge) (ys : List Edge) → edge_cmp x y ≡ Less → AllByRecursion (λ (z : Edge). edge_cmp y z ≡ Less) ys → AllByRecursion (λ (z : Edge). edge_cmp x z ≡ Less) ys
below_all x y [] below up = tt
below_all x y (z ∷ zs) below up = (edge_cmp-total.trans x y z below up.0, below_all x y zs below up.1)

-- an edge below the first of a strict list does not stand in it
is_none : (x y : Edge) (ys : List Edge) → edge_cmp x y ≡ Less → AllByRecursion (λ (z : Edge). edge_cmp y z ≡ Less) ys → times x (y ∷ ys) ≡ 0
is_none x y ys below up = none_of x (y ∷ ys) (below, below_all x y ys below up)

reversed : (x y : Edge) → edge_cmp x y ≡ Greater → edge_cmp y x ≡ Less
reversed x y above = edge_cmp-total.antisymm y x ∙ ap ordering_reverse above

-- strict lists with the same edges are one
strict_same : (xs ys : List Edge) → IsStrictlySortedBy edge_cmp xs → IsStrictlySortedBy edge_cmp ys → ((e : Edge) → times e xs ≡ times e ys) → xs ≡ ys
unfolding IsStrictlySortedBy
strict_same [] ys first second same = sym (none-left ys (λ e. sym (same e)))
strict_same (x ∷ xs) [] first second same = none-left (x ∷ xs) same
strict_same (x ∷ xs) (y ∷ ys) first second same = cases (edge_cmp x y) refl (strict_same xs ys first.1 second.1)
  where
    cases : (o : Ordering) → edge_cmp x y ≡ o → (((e : Edge) → times e xs ≡ times e ys) → xs ≡ ys) → x ∷ xs ≡ y ∷ ys
    cases Equal is later =
        let one : x ≡ y = edge_cmp-apart x y is in
        let rest : (e : Edge) → times e xs ≡ times e ys = λ e. let all = same e in let here : is_edge e x ≡ is_edge e y = ap (is_edge e) one in omega arith in
        rw (one, later rest) refl
    cases Less is later =
        let none : times x (y ∷ ys) ≡ 0 = is_none x y ys is second.0 in
        let some : is_edge x x ≡ 1 = is_itself x in
        let all = same x in absurd (omega arith)
    cases Greater is later =
        let none : times y (x ∷ xs) ≡ 0 = is_none y x xs (reversed x y is) first.0 in
        let some : is_edge y y ≡ 1 = is_itself y in
        let all = same y in absurd (omega arith)

pub left_is_one : (all left other : List Edge) → AreLeft all left → AreLeft all other → left ≡ other
left_is_one all left other first second =
    strict_same left other first.ordered second.ordered (λ e. first.odd e ∙ sym (second.odd e))
