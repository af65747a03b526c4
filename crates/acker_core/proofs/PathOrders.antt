-- The dones of a list in the order of a sort.
use Rattle.std.proofs.Common.{◌≡◌, ◌≤◌, ◌<◌, ℕ, suc, ◌+◌, false, Bor, List, [], ◌∷◌, ◌++◌, map, length, get_or, drop, drop-cons, add-one, Ordering, Less, Equal, Greater, IsPermutation, is_lt, is_gt, refl, sym, ap, ap₂, subst, ◌∙◌, arith, true≢false}
use Rattle.std.specs.List.{AllByRecursion}
use Rattle.std.specs.Ordering.{ordering_reverse}
use Rattle.std.proofs.lemmas.Cmp.{nat_list_cmp_total}
use Rattle.std.proofs.lemmas.List.{append_assoc}
use Rattle.std.proofs.lemmas.List.Elements.{All-from_recursion, recursion_from_All}
use Rattle.std.proofs.lemmas.List.Sorted.{All-permutation, IsPermutation-map}
use Rattle.tree_model.proofs.counted_items.Each.{each-to_map, each-weaker}
use Rattle.tree_model.specs.storm_values.Order.{path_cmp}
use Rattle.tree_model.specs.declared.messages.AckMsg.{AckMsg}
use Rattle.tree_model.specs.declared.messages.Done.{Done}
use Rattle.commit_writes.specs.Writes.{AreInPathOrder, HasDoneAt, IsPathOrderOf, done_in, done_of, dones_at, dones_in}
use Rattle.acker_core.specs.Orders.{StandsIn, done_beside, place_of}

-- the path that a done consumes
abbrev pub path_beside : ℕ × Bor Done → List ℕ
path_beside d = (done_beside d).consumed.path

turned_back : (o : Ordering) → is_lt o ≡ false → is_gt (ordering_reverse o) ≡ false
turned_back Less is = absurd (true≢false is)
turned_back Equal is = refl
turned_back Greater is = refl

pub in-order : (ds : List (ℕ × Bor Done))
    → ((i j : ℕ) (d : ℕ × Bor Done) → i ≤ j → j < length ds → is_lt (path_cmp (path_beside (get_or ds j d)) (path_beside (get_or ds i d))) ≡ false)
    → AreInPathOrder (map done_beside ds)
in-order [] up = tt
in-order (x ∷ xs) up = (
  each xs (λ j below. up 0 (suc j) x (omega arith) (omega arith)),
  in-order xs (λ i j d le below. up (suc i) (suc j) d (omega arith) (omega arith)),
)
  where
    each : (zs : List (ℕ × Bor Done)) → ((j : ℕ) → j < length zs → is_lt (path_cmp (path_beside (get_or zs j x)) (path_beside x)) ≡ false)
        → AllByRecursion (λ (e : Done). is_gt (path_cmp (path_beside x) e.consumed.path) ≡ false) (map done_beside zs)
    each [] low = tt
    each (y ∷ ys) low = (
      ap is_gt (nat_list_cmp_total.antisymm (path_beside x) (path_beside y)) ∙ turned_back (path_cmp (path_beside y) (path_beside x)) (low 0 (omega arith)),
      each ys (λ j below. low (suc j) (omega arith)),
    )

-- the done of one more message
pub dones-more : (list : List AckMsg) (old new : List (ℕ × Bor Done)) (i : ℕ) (m : AckMsg) → i < length list → m ≡ get_or list i m
    → map done_beside old ++ dones_in (drop i list) ≡ dones_in list → map done_beside new ≡ map done_beside old ++ done_in m
    → map done_beside new ++ dones_in (drop (i + 1) list) ≡ dones_in list
dones-more list old new i m below is kept added =
    let left = dones_in (drop (suc i) list) in
    let next : dones_in (drop i list) ≡ done_in m ++ left =
    ap dones_in (drop-cons list i m below) ∙ ap (λ (n : AckMsg). done_in n ++ left) (sym is) in
    rw add-one
    (ap (λ (ds : List Done). ds ++ left) added ∙ append_assoc (map done_beside old) (done_in m) left
    ∙ ap (λ (ds : List Done). map done_beside old ++ ds) (sym next) ∙ kept)

-- the dones at their places
at-places : (list : List AckMsg) (ds : List (ℕ × Bor Done)) → AllByRecursion (StandsIn list) ds → dones_at list (map place_of ds) ≡ map done_beside ds
at-places list [] all = refl
at-places list (d ∷ ds) all = ap₂ (λ (xs ys : List Done). xs ++ ys) (ap done_of all.0) (at-places list ds all.1)

pub sorted_is : (list : List AckMsg) (ps qs : List (ℕ × Bor Done)) (order : List ℕ) → map done_beside ps ≡ dones_in list
    → AllByRecursion (StandsIn list) ps → IsPermutation ps qs → AreInPathOrder (map done_beside qs) → order ≡ map place_of qs
    → IsPathOrderOf list order
sorted_is list ps qs order are there same ordered is =
    let each : AllByRecursion (StandsIn list) qs =
    recursion_from_All (StandsIn list) qs (All-permutation (StandsIn list) ps qs same (All-from_recursion (StandsIn list) ps there)) in
    let dones : dones_at list order ≡ map done_beside qs = ap (dones_at list) is ∙ at-places list qs each in
    record {
      there = subst (AllByRecursion (HasDoneAt list)) (sym is)
          (each-to_map (HasDoneAt list) place_of qs (each-weaker (StandsIn list) (λ d. HasDoneAt list (place_of d)) (λ d h. (done_beside d, h)) qs each));
      same = subst (λ (ds : List Done). IsPermutation (dones_in list) ds) (sym dones)
          (subst (λ (ds : List Done). IsPermutation ds (map done_beside qs)) are (IsPermutation-map done_beside ps qs same));
      ordered = subst AreInPathOrder (sym dones) ordered;
    }
