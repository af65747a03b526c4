-- A path in two pieces stands before another by the first number that differs, and where there is none, by length.
use Rattle.std.proofs.Common.{◌≡◌, ◌≤◌, ◌<◌, ◌⊎◌, inl, inr, ⊎_elim, ℕ, zero, suc, List, [], ◌∷◌, ◌++◌, Ordering, Less, Equal, Greater, length, take, get_or, min, refl, sym, ap, ◌∙◌, arith}
use Rattle.std.proofs.Math.Nat.{min-le_left, min-le_right, min-eq_left, min-eq_right}
use Rattle.std.proofs.lemmas.Bool.{cases_lt}
use Rattle.std.specs.Cmp.{nat_cmp_is}
use Rattle.std.specs.Cmp.Lexicographic.{slice_cmp}
use Rattle.std.specs.Ordering.{nat_cmp, ordering_then}

then_less : (r o : Ordering) → ordering_then r o ≡ Less → (r ≡ Less) ⊎ ((r ≡ Equal) × (o ≡ Less))
then_less Less o is = inl refl
then_less Equal o is = inr (refl, is)
then_less Greater o is = cc

then_equal : (r o : Ordering) → ordering_then r o ≡ Equal → (r ≡ Equal) × (o ≡ Equal)
then_equal Less o is = cc
then_equal Equal o is = (refl, is)
then_equal Greater o is = cc

lesser : (x y : ℕ) (o : Ordering) → x < y → ordering_then (nat_cmp x y) o ≡ Less
lesser x y o low = ap (λ r. ordering_then r o) (sym (nat_cmp_is x y Less low))

alike : (x y : ℕ) (o : Ordering) → x ≡ y → o ≡ Less → ordering_then (nat_cmp x y) o ≡ Less
alike x y o same is = ap (λ r. ordering_then r o) (sym (nat_cmp_is x y Equal same)) ∙ is

by_first : (r o p : Ordering) → (r ≡ Less) ⊎ ((r ≡ Equal) × (o ≡ Less)) → (o ≡ Less → p ≡ Less) → ordering_then r p ≡ Less
by_first r o p (inl less) on = ap (λ s. ordering_then s p) less
by_first r o p (inr same) on = ap (λ s. ordering_then s p) same.0 ∙ on same.1

-- the first numbers differ
pub below_early : (n : ℕ) (ks ls us vs : List ℕ) → n ≤ length ks → n ≤ length ls → slice_cmp nat_cmp (take n ks) (take n ls) ≡ Less
    → slice_cmp nat_cmp (ks ++ us) (ls ++ vs) ≡ Less
below_early zero ks ls us vs low high is = cc
below_early (suc n) [] ls us vs low high is = absurd (omega arith)
below_early (suc n) (a ∷ ks) [] us vs low high is = absurd (omega arith)
below_early (suc n) (a ∷ ks) (b ∷ ls) us vs low high is =
    by_first (nat_cmp a b) (slice_cmp nat_cmp (take n ks) (take n ls)) (slice_cmp nat_cmp (ks ++ us) (ls ++ vs))
    (then_less (nat_cmp a b) (slice_cmp nat_cmp (take n ks) (take n ls)) is) (below_early n ks ls us vs (omega arith) (omega arith))

-- the first n numbers are alike, and one of the first pieces ends there
pub below_late : (n : ℕ) (ks ls : List ℕ) (x y : ℕ) → n ≤ length ks → n ≤ length ls → (length ks ≤ n) ⊎ (length ls ≤ n)
    → slice_cmp nat_cmp (take n ks) (take n ls) ≡ Equal
    → (get_or (ks ++ x ∷ []) n x < get_or (ls ++ y ∷ []) n y) ⊎ ((get_or (ks ++ x ∷ []) n x ≡ get_or (ls ++ y ∷ []) n y) × (length ks < length ls))
    → slice_cmp nat_cmp (ks ++ x ∷ []) (ls ++ y ∷ []) ≡ Less
below_late zero [] [] x y low high ends is (inl less) = lesser x y Equal less
below_late zero [] [] x y low high ends is (inr same) = absurd (let shorter = same.1 in omega arith)
below_late zero [] (b ∷ ls) x y low high ends is (inl less) = lesser x b (slice_cmp nat_cmp [] (ls ++ y ∷ [])) less
below_late zero [] (b ∷ ls) x y low high ends is (inr same) = alike x b (slice_cmp nat_cmp [] (ls ++ y ∷ [])) same.0 (shorter ls y)
  where
    shorter : (cs : List ℕ) (z : ℕ) → slice_cmp nat_cmp [] (cs ++ z ∷ []) ≡ Less
    shorter [] z = refl
    shorter (c ∷ cs) z = refl
below_late zero (a ∷ ks) [] x y low high ends is (inl less) = lesser a y (slice_cmp nat_cmp (ks ++ x ∷ []) []) less
below_late zero (a ∷ ks) [] x y low high ends is (inr same) = absurd (let shorter = same.1 in omega arith)
below_late zero (a ∷ ks) (b ∷ ls) x y low high (inl ends) is by = absurd (omega arith)
below_late zero (a ∷ ks) (b ∷ ls) x y low high (inr ends) is by = absurd (omega arith)
below_late (suc n) [] ls x y low high ends is by = absurd (omega arith)
below_late (suc n) (a ∷ ks) [] x y low high ends is by = absurd (omega arith)
below_late (suc n) (a ∷ ks) (b ∷ ls) x y low high ends is by =
    let parts = then_equal (nat_cmp a b) (slice_cmp nat_cmp (take n ks) (take n ls)) is in
    ap (λ r. ordering_then r (slice_cmp nat_cmp (ks ++ x ∷ []) (ls ++ y ∷ []))) parts.0
    ∙ below_late n ks ls x y (omega arith) (omega arith) (fewer ends) parts.1 (same_by by)
  where
    fewer : (suc (length ks) ≤ suc n) ⊎ (suc (length ls) ≤ suc n) → (length ks ≤ n) ⊎ (length ls ≤ n)
    fewer (inl few) = inl (omega arith)
    fewer (inr few) = inr (omega arith)

    same_by : (get_or (ks ++ x ∷ []) n x < get_or (ls ++ y ∷ []) n y) ⊎ ((get_or (ks ++ x ∷ []) n x ≡ get_or (ls ++ y ∷ []) n y) × (suc (length ks) < suc (length ls)))
        → (get_or (ks ++ x ∷ []) n x < get_or (ls ++ y ∷ []) n y) ⊎ ((get_or (ks ++ x ∷ []) n x ≡ get_or (ls ++ y ∷ []) n y) × (length ks < length ls))
    same_by (inl less) = inl less
    same_by (inr same) = let few = same.1 in inr (same.0, omega arith)

pub within_both : (n a b : ℕ) → n ≡ min a b → (n ≤ a) × (n ≤ b)
within_both n a b is = let left = min-le_left a b in let right = min-le_right a b in (omega arith, omega arith)

pub first_ends : (n a b : ℕ) → n ≡ min a b → (a ≤ n) ⊎ (b ≤ n)
first_ends n a b is =
    ⊎_elim (λ (low : a < b). let same = min-eq_left {n = a} {m = b} (omega arith) in inl (omega arith))
    (λ (low : b ≤ a). let same = min-eq_right {n = b} {m = a} low in inr (omega arith)) (cases_lt a b)
