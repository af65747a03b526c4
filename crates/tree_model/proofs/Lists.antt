-- Facts of each item of a list, and lists in order.
use Rattle.std.proofs.Common.{◌≡◌, ℕ, zero, suc, true, List, [], ◌∷◌, ◌++◌, map, replicate, slice_get, Some, Less, Equal, Greater, ◌⊎◌, inl, inr, Contains, eqb, sym, refl, ap, subst, ◌∙◌, ⊎_elim, arith}
use Rattle.std.proofs.lemmas.Bool.{false≢true, or_cases, eqb-true}
use Rattle.std.proofs.lemmas.Cmp.{tied_itself}
use Rattle.std.proofs.lemmas.List.Elements.{All-contains, All-from_recursion}
use Rattle.std.proofs.lemmas.Option.{none-some, same_Some}
use Rattle.std.specs.Cmp.{IsTotalOrder}
use Rattle.std.specs.Ordering.{ordering_reverse}
use Rattle.std.specs.declared.cmp.Ordering.{Ordering}
use Rattle.std.specs.List.{flat_map, list_any, AllByRecursion}
use Rattle.std.specs.List.Sorted.{IsStrictlySortedBy}

module _ {X : Type 0} (P : X → Type 0) where
  pub each-append : (xs ys : List X) → AllByRecursion P xs → AllByRecursion P ys → AllByRecursion P (xs ++ ys)
  each-append [] ys first second = second
  each-append (x ∷ xs) ys first second = (first.0, each-append xs ys first.1 second)

  pub each-map : {Y : Type 0} (f : Y → X) (ys : List Y) → AllByRecursion (λ y. P (f y)) ys → AllByRecursion P (map f ys)
  each-map f [] all = tt
  each-map f (y ∷ ys) all = (all.0, each-map f ys all.1)

  pub each-flat_map : {Y : Type 0} (f : Y → List X) (ys : List Y) → AllByRecursion (λ y. AllByRecursion P (f y)) ys → AllByRecursion P (flat_map f ys)
  each-flat_map f [] all = tt
  each-flat_map f (y ∷ ys) all = each-append (f y) (flat_map f ys) all.0 (each-flat_map f ys all.1)

  pub each-replicate : (n : ℕ) (x : X) → P x → AllByRecursion P (replicate n x)
  each-replicate zero x p = tt
  each-replicate (suc n) x p = (p, each-replicate n x p)

  pub each-any : ((x : X) → P x) → (xs : List X) → AllByRecursion P xs
  each-any p [] = tt
  each-any p (x ∷ xs) = (p x, each-any p xs)

  pub each_at : (xs : List X) (i : ℕ) (x : X) → AllByRecursion P xs → slice_get xs i ≡ Some x → P x
  each_at [] i x all there = absurd (none-some x there)
  each_at (y ∷ ys) zero x all there = subst P (same_Some y x there) all.0
  each_at (y ∷ ys) (suc i) x all there = each_at ys i x all.1 there

pub each-weaker : {X : Type 0} (P Q : X → Type 0) → ((x : X) → P x → Q x) → (xs : List X) → AllByRecursion P xs → AllByRecursion Q xs
each-weaker P Q step [] all = tt
each-weaker P Q step (x ∷ xs) all = (step x all.0, each-weaker P Q step xs all.1)

-- what holds of each number holds of one that is among them
pub each-found : (P : ℕ → Type 0) (xs : List ℕ) → AllByRecursion P xs → (q : ℕ) → list_any (eqb q) xs ≡ true → P q
each-found P [] all q found = absurd (false≢true found)
each-found P (x ∷ xs) all q found = ⊎_elim (λ same. subst P (sym (eqb-true q x same)) all.0) (λ later. each-found P xs all.1 q later) (or_cases (eqb q x) (list_any (eqb q) xs) found)

pub map-map : {X Y Z : Type 0} (g : Y → Z) (f : X → Y) (xs : List X) → map g (map f xs) ≡ map (λ x. g (f x)) xs
map-map g f [] = refl
map-map g f (x ∷ xs) = ap (λ zs. g (f x) ∷ zs) (map-map g f xs)

pub map_same : {X Y : Type 0} (f g : X → Y) → ((x : X) → f x ≡ g x) → (xs : List X) → map f xs ≡ map g xs
map_same f g same [] = refl
map_same f g same (x ∷ xs) = λ i. same x i ∷ map_same f g same xs i

-- ---- an item among others

pub Contains-head : {X : Type 0} (x : X) (xs : List X) → Contains (x ∷ xs) x
Contains-head x xs = (0, omega arith, refl)

pub Contains-later : {X : Type 0} (y : X) (xs : List X) (x : X) → Contains xs x → Contains (y ∷ xs) x
Contains-later y xs x c = (suc c.0, omega (arith, c.1), c.2)

pub Contains-map : {X Y : Type 0} (f : X → Y) (xs : List X) (x : X) → Contains xs x → Contains (map f xs) (f x)
Contains-map f [] x c = absurd (omega (arith, c.1))
Contains-map f (y ∷ ys) x (zero, within, same) = (0, omega arith, ap f same)
Contains-map f (y ∷ ys) x (suc k, within, same) = Contains-later (f y) (map f ys) (f x) (Contains-map f ys x (k, omega arith, same))

-- ---- order

pub sorted-append : {X : Type 0} (cmp : X → X → Ordering) (xs ys : List X) → IsStrictlySortedBy cmp xs → IsStrictlySortedBy cmp ys → AllByRecursion (λ x. AllByRecursion (λ y. cmp x y ≡ Less) ys) xs → IsStrictlySortedBy cmp (xs ++ ys)
unfolding IsStrictlySortedBy
sorted-append cmp [] ys first second below = second
sorted-append cmp (x ∷ xs) ys first second below = (each-append (λ y. cmp x y ≡ Less) xs ys first.0 below.0, sorted-append cmp xs ys first.1 second below.1)

pub sorted-map : {X Y : Type 0} (cmp : X → X → Ordering) (order : Y → Y → Ordering) (f : X → Y) → ((x y : X) → cmp x y ≡ Less → order (f x) (f y) ≡ Less) → (xs : List X) → IsStrictlySortedBy cmp xs → IsStrictlySortedBy order (map f xs)
unfolding IsStrictlySortedBy
sorted-map cmp order f keeps [] sorted = tt
sorted-map cmp order f keeps (x ∷ xs) sorted =
    (each-map (λ y. order (f x) y ≡ Less) f xs (each-weaker (λ y. cmp x y ≡ Less) (λ y. order (f x) (f y) ≡ Less) (keeps x) xs sorted.0), sorted-map cmp order f keeps xs sorted.1)

Contains-cases : {X : Type 0} (y : X) (xs : List X) (x : X) → Contains (y ∷ xs) x → (y ≡ x) ⊎ Contains xs x
Contains-cases y xs x (zero, within, same) = inl same
Contains-cases y xs x (suc k, within, same) = inr (k, omega arith, same)

each-contains : {X : Type 0} (P : X → Type 0) (xs : List X) (x : X) → AllByRecursion P xs → Contains xs x → P x
each-contains P xs x all among = All-contains P xs x (All-from_recursion P xs all) among

module _ {X : Type 0} {cmp : X → X → Ordering} (total : IsTotalOrder cmp) where
  never_below_itself : (x : X) → cmp x x ≡ Less → ⊥
  never_below_itself x less = let tied = tied_itself total x in cc

  -- what is below the first item of a list in order is not in it
  not_among : (x y : X) (ys : List X) → cmp x y ≡ Less → AllByRecursion (λ z. cmp y z ≡ Less) ys → Contains (y ∷ ys) x → ⊥
  not_among x y ys less later among =
      ⊎_elim (λ same. never_below_itself x (subst (λ z. cmp x z ≡ Less) same less))
      (λ in_tail. never_below_itself x (total.trans x y x less (each-contains (λ z. cmp y z ≡ Less) ys x later in_tail)))
      (Contains-cases y ys x among)

  tail_has : (x : X) (xs ys : List X) → AllByRecursion (λ z. cmp x z ≡ Less) xs → ((z : X) → Contains (x ∷ xs) z → Contains (x ∷ ys) z) → (z : X) → Contains xs z → Contains ys z
  tail_has x xs ys later has z among =
      ⊎_elim (λ same. absurd (never_below_itself x (subst (λ w. cmp x w ≡ Less) (sym same) (each-contains (λ w. cmp x w ≡ Less) xs z later among)))) (λ in_tail. in_tail)
      (Contains-cases x ys z (has z (Contains-later x xs z among)))

  -- two lists in order with the same items are one
  pub sorted_same : ((x y : X) → cmp x y ≡ Equal → x ≡ y) → (xs ys : List X) → IsStrictlySortedBy cmp xs → IsStrictlySortedBy cmp ys → ((z : X) → Contains xs z → Contains ys z) → ((z : X) → Contains ys z → Contains xs z) → xs ≡ ys
  unfolding IsStrictlySortedBy
  sorted_same exact [] [] first second to from = refl
  sorted_same exact [] (y ∷ ys) first second to from = absurd (omega (arith, (from y (Contains-head y ys)).1))
  sorted_same exact (x ∷ xs) [] first second to from = absurd (omega (arith, (to x (Contains-head x xs)).1))
  sorted_same exact (x ∷ xs) (y ∷ ys) first second to from =
      elim (cmp x y) as (λ o. cmp x y ≡ o → x ∷ xs ≡ y ∷ ys) [
        | Less ↦ λ is. absurd (not_among x y ys is second.0 (to x (Contains-head x xs)))
        | Equal ↦ λ is.
            let same = exact x y is in
            let to_y = subst (λ (h : X). (z : X) → Contains (h ∷ xs) z → Contains (y ∷ ys) z) same to in
            let from_y = subst (λ (h : X). (z : X) → Contains (y ∷ ys) z → Contains (h ∷ xs) z) same from in
            let above = subst (λ (h : X). AllByRecursion (λ z. cmp h z ≡ Less) xs) same first.0 in
            let rest = sorted_same exact xs ys first.1 second.1 (tail_has y xs ys above to_y) (tail_has y ys xs second.0 from_y) in
            λ i. same i ∷ rest i
        | Greater ↦ λ is. absurd (not_among y x xs (total.antisymm y x ∙ ap ordering_reverse is) first.0 (from y (Contains-head y ys)))
      ] refl
