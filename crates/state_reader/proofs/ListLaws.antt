-- Lists, and the first of their items.
use Rattle.std.proofs.Common.{◌≡◌, ℕ, zero, suc, ◌+◌, List, [], ◌∷◌, ◌++◌, map, take, slice_get, Some, ap, ◌∙◌, arith}
use Rattle.std.proofs.lemmas.Option.{none-some, same_Some}

take_next : {X Z : Type 0} (f : X → Z) (xs : List X) (n : ℕ) (x : X) → slice_get xs n ≡ Some x → map f (take (suc n) xs) ≡ map f (take n xs) ++ f x ∷ []
take_next f [] n x found = absurd (none-some x found)
take_next f (y ∷ ys) zero x found = λ i. f (same_Some y x found i) ∷ []
take_next f (y ∷ ys) (suc n) x found = ap (λ r. f y ∷ r) (take_next f ys n x found)

-- one more item
pub map-take_next : {X Z : Type 0} (f : X → Z) (xs : List X) (n : ℕ) (x : X) → slice_get xs n ≡ Some x → map f (take (n + 1) xs) ≡ map f (take n xs) ++ f x ∷ []
map-take_next f xs n x found = let more : n + 1 ≡ suc n = omega arith in ap (λ k. map f (take k xs)) more ∙ take_next f xs n x found
