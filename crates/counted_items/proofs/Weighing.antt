-- Weights of lists.
use Rattle.std.proofs.Common.{◌≡◌, ℕ, ◌+◌, ◌≤◌, List, [], ◌∷◌, ◌++◌, map, length, flat_map, refl, ap, ◌∙◌, arith}
use Rattle.std.proofs.lemmas.List.Elements.{All-contains, All-from_recursion}
use Rattle.std.specs.List.{AllByRecursion, Contains}
use Rattle.counted_items.specs.Weights.{weigh}

module _ {X : Type 0} where
  pub weigh-append : (f : X → ℕ) (xs ys : List X) → weigh f (xs ++ ys) ≡ weigh f xs + weigh f ys
  weigh-append f [] ys = omega arith
  weigh-append f (x ∷ xs) ys = omega (arith, weigh-append f xs ys)

  pub weigh-push : (f : X → ℕ) (xs : List X) (x : X) → weigh f (xs ++ x ∷ []) ≡ weigh f xs + f x
  weigh-push f xs x = omega (arith, weigh-append f xs (x ∷ []))

  pub weigh-map : {Y : Type 0} (f : X → ℕ) (g : Y → X) (ys : List Y) → weigh f (map g ys) ≡ weigh (λ y. f (g y)) ys
  weigh-map f g [] = refl
  weigh-map f g (y ∷ ys) = ap (λ (n : ℕ). f (g y) + n) (weigh-map f g ys)

  pub weigh-flat_map : {Y : Type 0} (f : X → ℕ) (g : Y → List X) (ys : List Y) → weigh f (flat_map g ys) ≡ weigh (λ y. weigh f (g y)) ys
  weigh-flat_map f g [] = refl
  weigh-flat_map f g (y ∷ ys) = weigh-append f (g y) (flat_map g ys) ∙ ap (λ (n : ℕ). weigh f (g y) + n) (weigh-flat_map f g ys)

  pub weigh-zero : (f : X → ℕ) → ((x : X) → f x ≡ 0) → (xs : List X) → weigh f xs ≡ 0
  weigh-zero f none [] = refl
  weigh-zero f none (x ∷ xs) = let here = none x in let later = weigh-zero f none xs in omega arith

  -- where g weighs nothing, f weighs nothing
  pub weigh-none : (f g : X → ℕ) → ((x : X) → g x ≡ 0 → f x ≡ 0) → (xs : List X) → weigh g xs ≡ 0 → weigh f xs ≡ 0
  weigh-none f g step [] none = refl
  weigh-none f g step (x ∷ xs) none = let here = step x (omega arith) in let later = weigh-none f g step xs (omega arith) in omega arith

  pub weigh-le : (f g : X → ℕ) → ((x : X) → f x ≤ g x) → (xs : List X) → weigh f xs ≤ weigh g xs
  weigh-le f g step [] = omega arith
  weigh-le f g step (x ∷ xs) = let here = step x in let later = weigh-le f g step xs in omega arith

  pub weigh-same : (f g : X → ℕ) → ((x : X) → f x ≡ g x) → (xs : List X) → weigh f xs ≡ weigh g xs
  weigh-same f g step [] = refl
  weigh-same f g step (x ∷ xs) = let here = step x in let later = weigh-same f g step xs in omega arith

  -- the same of the items that have a fact
  pub weigh-le_each : (f g : X → ℕ) (P : X → Type 0) → ((x : X) → P x → f x ≤ g x) → (xs : List X) → AllByRecursion P xs → weigh f xs ≤ weigh g xs
  weigh-le_each f g P step [] all = omega arith
  weigh-le_each f g P step (x ∷ xs) all = let here = step x all.0 in let rest = weigh-le_each f g P step xs all.1 in omega arith

  pub weigh-same_each : (f g : X → ℕ) (P : X → Type 0) → ((x : X) → P x → f x ≡ g x) → (xs : List X) → AllByRecursion P xs → weigh f xs ≡ weigh g xs
  weigh-same_each f g P step [] all = refl
  weigh-same_each f g P step (x ∷ xs) all = let here = step x all.0 in let rest = weigh-same_each f g P step xs all.1 in omega arith

  pub weigh-plus : (f g : X → ℕ) (xs : List X) → weigh (λ x. f x + g x) xs ≡ weigh f xs + weigh g xs
  weigh-plus f g [] = refl
  weigh-plus f g (x ∷ xs) = let h = weigh-plus f g xs in omega arith

  -- the order of two sums does not matter
  pub weigh-swap : {Y : Type 0} (f : Y → X → ℕ) (ys : List Y) (xs : List X) → weigh (λ x. weigh (λ y. f y x) ys) xs ≡ weigh (λ y. weigh (f y) xs) ys
  weigh-swap f [] xs = weigh-zero (λ x. 0) (λ x. refl) xs
  weigh-swap f (y ∷ ys) xs = weigh-plus (f y) (λ x. weigh (λ z. f z x) ys) xs ∙ ap (λ (n : ℕ). weigh (f y) xs + n) (weigh-swap f ys xs)

  -- as many as items, where each weighs 1
  pub weigh-ones : (xs : List X) → weigh (λ x. 1) xs ≡ length xs
  weigh-ones [] = refl
  weigh-ones (x ∷ xs) = omega (arith, weigh-ones xs)

  pub weigh-few : (f : X → ℕ) → ((x : X) → f x ≤ 1) → (xs : List X) → weigh f xs ≤ length xs
  weigh-few f few xs = let l = weigh-le f (λ x. 1) few xs in let o = weigh-ones xs in omega arith

  -- each item weighs at most what its list does
  pub each-weighs : (xs : List X) → AllByRecursion (λ x. (f : X → ℕ) → f x ≤ weigh f xs) xs
  each-weighs [] = tt
  each-weighs (x ∷ xs) = ((λ f. omega arith), weaker xs (each-weighs xs))
    where
      weaker : (ys : List X) → AllByRecursion (λ y. (f : X → ℕ) → f y ≤ weigh f xs) ys → AllByRecursion (λ y. (f : X → ℕ) → f y ≤ f x + weigh f xs) ys
      weaker [] all = tt
      weaker (y ∷ ys) all = ((λ f. let h = all.0 f in omega arith), weaker ys all.1)

  pub item-weighs : (f : X → ℕ) (xs : List X) (x : X) → Contains xs x → f x ≤ weigh f xs
  item-weighs f xs x there = All-contains (λ y. f y ≤ weigh f xs) xs x (All-from_recursion (λ y. f y ≤ weigh f xs) xs (few xs (each-weighs xs))) there
    where
      few : (ys : List X) → AllByRecursion (λ y. (h : X → ℕ) → h y ≤ weigh h xs) ys → AllByRecursion (λ y. f y ≤ weigh f xs) ys
      few [] all = tt
      few (y ∷ ys) all = (all.0 f, few ys all.1)
