-- Bits that are set.
use Rattle.std.proofs.Common.{◌≡◌, ◌≢◌, ℕ, zero, suc, ◌*◌, ◌/◌, ◌%◌, ◌^◌, ◌<◌, ◌==◌, ◌||◌, max, Bool, true, false, true≢false, bit_or, slice_index, slice_set, List, length, eqb-true, eq-eqb, sym, refl, ap, ◌∙◌, arith}
use Rattle.std.proofs.lemmas.List.{get_or-set_same, get_or-set_other}
use Rattle.std.proofs.lemmas.Nat.Bits.{bit_at_or, bit_at-lt, bit_at-pow_same, bit_at-pow_other}
use Rattle.std.proofs.Math.Nat.{mod-eq_of_lt}
use Rattle.std.proofs.Math.Pow.{pow-lt}
use Rattle.std.specs.Int.{bit_at}

-- one of two bits is set
either : (x y : ℕ) → x < 2 → y < 2 → (max x y == 1) ≡ ((x == 1) || (y == 1))
either zero zero few less = refl
either zero (suc zero) few less = refl
either (suc zero) zero few less = refl
either (suc zero) (suc zero) few less = refl
either (suc (suc x)) y few less = absurd (omega arith)
either x (suc (suc y)) few less = absurd (omega arith)

-- a bit of two words
pub or_marked : (a b i : ℕ) → (bit_at (bit_or a b) i == 1) ≡ ((bit_at a i == 1) || (bit_at b i == 1))
or_marked a b i = ap (λ (n : ℕ). n == 1) (bit_at_or a b i) ∙ either (bit_at a i) (bit_at b i) (bit_at-lt a i) (bit_at-lt b i)

module _ (words : List ℕ) (root r : ℕ) (inside : root / 64 < length words) where
  -- the word with the root's bit set
  abbrev one_more : ℕ
  one_more = bit_or (slice_index words (root / 64)) (2 ^ (root % 64))

  abbrev after : List ℕ
  after = slice_set words (root / 64) one_more

  same_word : root / 64 ≡ r / 64 → bit_at (slice_index after (r / 64)) (r % 64) ≡ max (bit_at (slice_index words (r / 64)) (r % 64)) (bit_at (2 ^ (root % 64)) (r % 64))
  same_word same =
      ap (λ (n : ℕ). bit_at (slice_index after n) (r % 64)) (sym same) ∙ ap (λ (n : ℕ). bit_at n (r % 64)) (get_or-set_same words (root / 64) one_more 0 inside)
      ∙ bit_at_or (slice_index words (root / 64)) (2 ^ (root % 64)) (r % 64)
      ∙ ap (λ (n : ℕ). max (bit_at (slice_index words n) (r % 64)) (bit_at (2 ^ (root % 64)) (r % 64))) same

  pub one_marked : (bit_at (slice_index after (r / 64)) (r % 64) == 1) ≡ ((root == r) || (bit_at (slice_index words (r / 64)) (r % 64) == 1))
  one_marked = by_case (root == r) refl
    where
      other_bit : root ≢ r → bit_at (slice_index after (r / 64)) (r % 64) ≡ bit_at (slice_index words (r / 64)) (r % 64)
      other_bit apart = in_word (root / 64 == r / 64) refl
        where
          in_word : (t : Bool) → (root / 64 == r / 64) ≡ t → bit_at (slice_index after (r / 64)) (r % 64) ≡ bit_at (slice_index words (r / 64)) (r % 64)
          in_word true is =
              let same : root / 64 ≡ r / 64 = eqb-true (root / 64) (r / 64) is in
              let e = bit_at-pow_other (root % 64) (r % 64) (λ equal. apart (omega arith)) in
              let s = same_word same in omega arith
          in_word false is =
              ap (λ (n : ℕ). bit_at n (r % 64)) (get_or-set_other words (root / 64) (r / 64) one_more 0 (λ equal. true≢false (sym (eq-eqb (root / 64) (r / 64) (sym equal)) ∙ is)))

      by_case : (t : Bool) → (root == r) ≡ t → (bit_at (slice_index after (r / 64)) (r % 64) == 1) ≡ (t || (bit_at (slice_index words (r / 64)) (r % 64) == 1))
      by_case true is =
          let same : root ≡ r = eqb-true root r is in
          let e : bit_at (2 ^ (root % 64)) (r % 64) ≡ 1 = ap (λ (n : ℕ). bit_at (2 ^ (root % 64)) (n % 64)) (sym same) ∙ bit_at-pow_same (root % 64) in
          let s = same_word (ap (λ (n : ℕ). n / 64) same) in
          let l = bit_at-lt (slice_index words (r / 64)) (r % 64) in
          let is : bit_at (slice_index after (r / 64)) (r % 64) ≡ 1 = omega arith in ap (λ (n : ℕ). n == 1) is
      by_case false is =
          ap (λ (n : ℕ). n == 1) (other_bit (λ equal. true≢false (sym (eq-eqb root r equal) ∙ is)))

-- as the code sets it
pub one_bit : (k : ℕ) → k < 64 → 1 * 2 ^ k % 18446744073709551616 ≡ 2 ^ k
one_bit k small = let l = pow-lt {i = k} {j = 64} small in let e : 1 * 2 ^ k ≡ 2 ^ k = omega arith in ap (λ (n : ℕ). n % 18446744073709551616) e ∙ mod-eq_of_lt l
