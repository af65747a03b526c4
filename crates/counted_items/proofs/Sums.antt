-- Weights are std's sums.
use Rattle.std.proofs.Common.{◌≡◌, ℕ, ◌+◌, List, [], ◌∷◌, IsPermutation, sum_by, sym, refl, ap, ◌∙◌}
use Rattle.std.proofs.lemmas.List.Sorted.{sum_by-IsPermutation}
use Rattle.std.proofs.lemmas.List.Sums.{sum_by-cons}
use Rattle.counted_items.specs.Weights.{weigh, Same}

module _ {X : Type 0} where
  pub weigh-sum_by : (f : X → ℕ) (xs : List X) → weigh f xs ≡ sum_by f xs
  weigh-sum_by f [] = refl
  weigh-sum_by f (x ∷ xs) = ap (λ (n : ℕ). f x + n) (weigh-sum_by f xs) ∙ sym (sum_by-cons f x xs)

  pub same-IsPermutation : (xs ys : List X) → IsPermutation xs ys → Same xs ys
  same-IsPermutation xs ys order f = weigh-sum_by f xs ∙ sym (sum_by-IsPermutation f xs ys order) ∙ sym (weigh-sum_by f ys)
