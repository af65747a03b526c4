-- Facts of each item of a list, and lists with one more item at the end.
use Rattle.std.proofs.Common.{◌≡◌, ◌≢◌, ℕ, zero, suc, List, [], ◌∷◌, ◌++◌, set, map, sym, refl, subst, ap}
use Rattle.std.specs.List.{AllByRecursion}
use mathlib.Core.Option.{some, some-injective, some-ne-none}
use lib.ListN.{get_elem?}

module _ {X : Type 0} where
  pub each-both : (P Q R : X → Type 0) → ((x : X) → P x → Q x → R x) → (xs : List X) → AllByRecursion P xs → AllByRecursion Q xs → AllByRecursion R xs
  each-both P Q R step [] first second = tt
  each-both P Q R step (x ∷ xs) first second = (step x first.0 second.0, each-both P Q R step xs first.1 second.1)

  pub each-set : (P : X → Type 0) (xs : List X) (i : ℕ) (y : X) → AllByRecursion P xs → P y → AllByRecursion P (set xs i y)
  each-set P [] i y all here = tt
  each-set P (x ∷ xs) zero y all here = (here, all.1)
  each-set P (x ∷ xs) (suc i) y all here = (all.0, each-set P xs i y all.1 here)

  pub each-at : (P : X → Type 0) (xs : List X) (i : ℕ) (x : X) → AllByRecursion P xs → get_elem? xs i ≡ some x → P x
  each-at P [] i x all at = absurd (some-ne-none x (sym at))
  each-at P (z ∷ xs) zero x all at = subst P (some-injective z x at) all.0
  each-at P (z ∷ xs) (suc i) x all at = each-at P xs i x all.1 at

  pub each-split-middle : (P : X → Type 0) (xs : List X) (y : X) (ys : List X) → AllByRecursion P (xs ++ y ∷ ys) → AllByRecursion P (xs ++ ys)
  each-split-middle P [] y ys all = all.1
  each-split-middle P (x ∷ xs) y ys all = (all.0, each-split-middle P xs y ys all.1)

  -- the item that was set
  pub set-at : (xs : List X) (i : ℕ) (x y : X) → get_elem? xs i ≡ some x → get_elem? (set xs i y) i ≡ some y
  set-at [] i x y at = absurd (some-ne-none x (sym at))
  set-at (z ∷ xs) zero x y at = refl
  set-at (z ∷ xs) (suc i) x y at = set-at xs i x y at

  -- the other items stay
  pub set-else : (xs : List X) (i j : ℕ) (y : X) → i ≢ j → get_elem? (set xs i y) j ≡ get_elem? xs j
  set-else [] i j y apart = refl
  set-else (x ∷ xs) zero zero y apart = absurd (apart refl)
  set-else (x ∷ xs) zero (suc j) y apart = refl
  set-else (x ∷ xs) (suc i) zero y apart = refl
  set-else (x ∷ xs) (suc i) (suc j) y apart = set-else xs i j y (λ e. apart (ap suc e))

pub map-append : {X Y : Type 0} (f : X → Y) (xs ys : List X) → map f (xs ++ ys) ≡ map f xs ++ map f ys
map-append f [] ys = refl
map-append f (x ∷ xs) ys = ap (λ zs. f x ∷ zs) (map-append f xs ys)

pub some-append : {X : Type 0} (xs ys : List X) → xs ≢ [] → xs ++ ys ≢ []
some-append [] ys some_item nil = some_item refl
some-append (x ∷ xs) ys some_item nil = cc

pub ends-apart : (xs : List ℕ) (k : ℕ) → xs ++ k ∷ [] ≢ []
ends-apart [] k e = cc
ends-apart (x ∷ xs) k e = cc

pub last_is : (xs ys : List ℕ) (j k : ℕ) → xs ++ j ∷ [] ≡ ys ++ k ∷ [] → (xs ≡ ys) × (j ≡ k)
last_is [] [] j k e = (refl, cc)
last_is [] (y ∷ ys) j k e = let rest : [] ≡ ys ++ k ∷ [] = cc in absurd (ends-apart ys k (sym rest))
last_is (x ∷ xs) [] j k e = let rest : xs ++ j ∷ [] ≡ [] = cc in absurd (ends-apart xs j rest)
last_is (x ∷ xs) (y ∷ ys) j k e =
    let rest : xs ++ j ∷ [] ≡ ys ++ k ∷ [] = cc in
    let head : x ≡ y = cc in
    let both = last_is xs ys j k rest in ((λ i. head i ∷ both.0 i), both.1)

-- what holds of no items, and of one more item at the end, holds of all lists
pub by_ends : (P : List ℕ → Type 0) → P [] → ((xs : List ℕ) (k : ℕ) → P xs → P (xs ++ k ∷ [])) → (xs : List ℕ) → P xs
by_ends P none more [] = none
by_ends P none more (x ∷ xs) = by_ends (λ ys. P (x ∷ ys)) (more [] x none) (λ ys k. more (x ∷ ys) k) xs
