-- Facts of each item of a list, by recursion on it.
use Rattle.std.proofs.Common.{◌≡◌, ℕ, List, [], ◌∷◌, ◌++◌, map, flat_map}
use Rattle.std.specs.List.{AllByRecursion}

module _ {X : Type 0} where
  pub each-append : (P : X → Type 0) (xs ys : List X) → AllByRecursion P xs → AllByRecursion P ys → AllByRecursion P (xs ++ ys)
  each-append P [] ys first second = second
  each-append P (x ∷ xs) ys first second = (first.0, each-append P xs ys first.1 second)

  pub each-front : (P : X → Type 0) (xs ys : List X) → AllByRecursion P (xs ++ ys) → AllByRecursion P xs
  each-front P [] ys all = tt
  each-front P (x ∷ xs) ys all = (all.0, each-front P xs ys all.1)

  pub each-back : (P : X → Type 0) (xs ys : List X) → AllByRecursion P (xs ++ ys) → AllByRecursion P ys
  each-back P [] ys all = all
  each-back P (x ∷ xs) ys all = each-back P xs ys all.1

  pub each-flat_map : {Y : Type 0} (P : X → Type 0) (g : Y → List X) (ys : List Y) → AllByRecursion (λ y. AllByRecursion P (g y)) ys → AllByRecursion P (flat_map g ys)
  each-flat_map P g [] all = tt
  each-flat_map P g (y ∷ ys) all = each-append P (g y) (flat_map g ys) all.0 (each-flat_map P g ys all.1)

  -- of lists whose join has a fact everywhere, each has it
  pub each-parts : {Y : Type 0} (P : X → Type 0) (g : Y → List X) (ys : List Y) → AllByRecursion P (flat_map g ys) → AllByRecursion (λ y. AllByRecursion P (g y)) ys
  each-parts P g [] all = tt
  each-parts P g (y ∷ ys) all = (each-front P (g y) (flat_map g ys) all, each-parts P g ys (each-back P (g y) (flat_map g ys) all))

  pub each-map : {Y : Type 0} (P : X → Type 0) (g : Y → X) (ys : List Y) → AllByRecursion P (map g ys) → AllByRecursion (λ y. P (g y)) ys
  each-map P g [] all = tt
  each-map P g (y ∷ ys) all = (all.0, each-map P g ys all.1)

  pub each-to_map : {Y : Type 0} (P : X → Type 0) (g : Y → X) (ys : List Y) → AllByRecursion (λ y. P (g y)) ys → AllByRecursion P (map g ys)
  each-to_map P g [] all = tt
  each-to_map P g (y ∷ ys) all = (all.0, each-to_map P g ys all.1)

  pub each-weaker : (P Q : X → Type 0) → ((x : X) → P x → Q x) → (xs : List X) → AllByRecursion P xs → AllByRecursion Q xs
  each-weaker P Q step [] all = tt
  each-weaker P Q step (x ∷ xs) all = (step x all.0, each-weaker P Q step xs all.1)

  pub each-any : (P : X → Type 0) → ((x : X) → P x) → (xs : List X) → AllByRecursion P xs
  each-any P p [] = tt
  each-any P p (x ∷ xs) = (p x, each-any P p xs)

  pub each-both : (P Q : X → Type 0) (xs : List X) → AllByRecursion P xs → AllByRecursion Q xs → AllByRecursion (λ x. P x × Q x) xs
  each-both P Q [] first second = tt
  each-both P Q (x ∷ xs) first second = ((first.0, second.0), each-both P Q xs first.1 second.1)

  pub each-under : (A : Type 0) (P : X → Type 0) (xs : List X) → (A → AllByRecursion P xs) → AllByRecursion (λ x. A → P x) xs
  each-under A P [] all = tt
  each-under A P (x ∷ xs) all = ((λ a. (all a).0), each-under A P xs (λ a. (all a).1))

  -- a fact that each size has separately
  pub each-every : (size : X → ℕ) (P : X → Type 0) (xs : List X) → ((n : ℕ) → AllByRecursion (λ x. size x ≡ n → P x) xs) → AllByRecursion P xs
  each-every size P [] all = tt
  each-every size P (x ∷ xs) all = ((all (size x)).0 (λ i. size x), each-every size P xs (λ n. (all n).1))
