-- Partitions are shut and opened one by one.
use Rattle.std.proofs.Common.{◌≡◌, ◌≢◌, ◌<◌, ℕ, ◌+◌, ◌-◌, ◌*◌, ◌^◌, ◌%◌, ◌==◌, Bool, true, false, cond, refl, sym, ap, ◌∙◌, eqb-true, eq-eqb, true≢false, arith}
use Rattle.std.specs.Prelude.{max}
use Rattle.std.specs.Int.{bit_at}
use Rattle.std.specs.Int.Bits.{bit_or, bit_xor, or_add_and, xor_add_and}
use Rattle.std.proofs.lemmas.Nat.Bits.{and_pow, bit_at-lt, bit_at-pow_other, bit_at-pow_same, bit_at_or, bit_at_xor}
use Rattle.commit_order.specs.record_offers.Offers.{is_shut}
use Rattle.event_worlds.specs.Worlds.{open_with, shut_with}

-- a bit that is not 1 is 0
not_one : (x : ℕ) → x < 2 → (x == 1) ≡ false → x ≡ 0
not_one x few is = let other : x ≡ 1 → ⊥ = (λ e. true≢false (sym (eq-eqb x 1 e) ∙ is)) in omega (arith, other)

not_same : (r q : ℕ) → (r == q) ≡ false → r ≢ q
not_same r q is e = true≢false (sym (eq-eqb r q e) ∙ is)

module _ (q shut : ℕ) where
  sum : bit_or shut (2 ^ q) + bit_at shut q * 2 ^ q ≡ shut + 2 ^ q
  sum = ap (λ (x : ℕ). bit_or shut (2 ^ q) + x) (sym (and_pow shut q)) ∙ or_add_and shut (2 ^ q)

  difference : bit_xor shut (2 ^ q) + bit_at shut q * 2 ^ q * 2 ≡ shut + 2 ^ q
  difference = ap (λ (x : ℕ). bit_xor shut (2 ^ q) + x * 2) (sym (and_pow shut q)) ∙ xor_add_and shut (2 ^ q)

  -- as by an or of bits
  pub shut-or : shut_with q shut ≡ bit_or shut (2 ^ q)
  shut-or = by (is_shut shut q) refl
    where
      by : (b : Bool) → (bit_at shut q == 1) ≡ b → cond b shut (shut + 2 ^ q) ≡ bit_or shut (2 ^ q)
      by true is = let s = sum in let one = ap (λ (x : ℕ). x * 2 ^ q) (eqb-true (bit_at shut q) 1 is) in omega arith
      by false is = let s = sum in let none = ap (λ (x : ℕ). x * 2 ^ q) (not_one (bit_at shut q) (bit_at-lt shut q) is) in omega arith

  pub shut-bit : (r : ℕ) → is_shut (shut_with q shut) r ≡ cond (r == q) true (is_shut shut r)
  shut-bit r = ap (λ (x : ℕ). bit_at x r == 1) shut-or ∙ ap (λ (x : ℕ). x == 1) (bit_at_or shut (2 ^ q) r) ∙ by (r == q) refl
    where
      by : (b : Bool) → (r == q) ≡ b → (max (bit_at shut r) (bit_at (2 ^ q) r) == 1) ≡ cond b true (is_shut shut r)
      by true is =
          let one : bit_at (2 ^ q) r ≡ 1 = ap (bit_at (2 ^ q)) (eqb-true r q is) ∙ bit_at-pow_same q in
          let few = bit_at-lt shut r in eq-eqb (max (bit_at shut r) (bit_at (2 ^ q) r)) 1 (omega arith)
      by false is =
          let none = bit_at-pow_other q r (not_same r q is) in ap (λ (x : ℕ). x == 1)
          (let e : max (bit_at shut r) (bit_at (2 ^ q) r) ≡ bit_at shut r = omega arith in e)

  -- the bit that is set falls
  open-xor : bit_at shut q ≡ 1 → shut - 2 ^ q ≡ bit_xor shut (2 ^ q)
  open-xor one = let d = difference in let e = ap (λ (x : ℕ). x * 2 ^ q * 2) one in omega arith

  pub open-bit : (r : ℕ) → is_shut (open_with q shut) r ≡ cond (r == q) false (is_shut shut r)
  open-bit r = by (is_shut shut q) refl (r == q) refl
    where
      by : (b : Bool) → (bit_at shut q == 1) ≡ b → (c : Bool) → (r == q) ≡ c → is_shut (cond b (shut - 2 ^ q) shut) r ≡ cond c false (is_shut shut r)
      by true is true same =
          let at = eqb-true r q same in
          let one : bit_at shut r ≡ 1 = ap (bit_at shut) at ∙ eqb-true (bit_at shut q) 1 is in
          let here : bit_at (2 ^ q) r ≡ 1 = ap (bit_at (2 ^ q)) at ∙ bit_at-pow_same q in
          ap (λ (x : ℕ). bit_at x r == 1) (open-xor (eqb-true (bit_at shut q) 1 is)) ∙ ap (λ (x : ℕ). x == 1) (bit_at_xor shut (2 ^ q) r)
          ∙ (λ i. ((one i + here i) % 2) == 1)
      by true is false other =
          let none = bit_at-pow_other q r (not_same r q other) in
          let few = bit_at-lt shut r in
          ap (λ (x : ℕ). bit_at x r == 1) (open-xor (eqb-true (bit_at shut q) 1 is)) ∙ ap (λ (x : ℕ). x == 1) (bit_at_xor shut (2 ^ q) r)
          ∙ ap (λ (x : ℕ). x == 1) (ap (λ (x : ℕ). (bit_at shut r + x) % 2) none ∙ (let e : (bit_at shut r + 0) % 2 ≡ bit_at shut r = omega arith in e))
      by false is true same = ap (λ (x : ℕ). is_shut shut x) (eqb-true r q same) ∙ is
      by false is false other = refl
