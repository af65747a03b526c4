-- Bits of partitions.
use Rattle.std.proofs.Common.{◌≡◌, ◌≤◌, ◌<◌, ℕ, ◌+◌, ◌-◌, ◌*◌, ◌^◌, ◌%◌, ◌==◌, Bool, true, false, cond, refl, sym, ap, ◌∙◌, eqb-true, eq-eqb, arith}
use Rattle.std.specs.Int.{bit_at}
use Rattle.std.specs.Int.Bits.{bit_and, bit_or}
use Rattle.std.proofs.Math.Pow.{pow-lt}
use Rattle.std.proofs.lemmas.Nat.{and_le_l, pow_pos}
use Rattle.std.proofs.lemmas.Nat.Bits.{and_pow, bit_at-lt}
use Rattle.event_worlds.specs.record_offers.Offers.{is_shut}
use Rattle.event_worlds.specs.Worlds.{open_with, shut_with}
use Rattle.event_worlds.proofs.Shutting.{shut-or}

-- the bit of a partition
pub bit_is : (q : ℕ) → q < 16 → 1 * 2 ^ q % 65536 ≡ 2 ^ q
bit_is q few = let low : 2 ^ q < 2 ^ 16 = pow-lt few in let below : 2 ^ q < 65536 = low in omega arith

pub or_shuts : (q shut : ℕ) → q < 16 → bit_or shut (1 * 2 ^ q % 65536) ≡ shut_with q shut
or_shuts q shut few = ap (bit_or shut) (bit_is q few) ∙ sym (shut-or q shut)

module _ (q shut : ℕ) (few : q < 16) where
  and_is : bit_and shut (1 * 2 ^ q % 65536) ≡ bit_at shut q * 2 ^ q
  and_is = ap (bit_and shut) (bit_is q few) ∙ and_pow shut q

  -- a bit that is not there
  pub stays_open : bit_and shut (1 * 2 ^ q % 65536) ≡ 0 → shut ≡ open_with q shut
  stays_open none = by (is_shut shut q) refl
    where
      by : (b : Bool) → (bit_at shut q == 1) ≡ b → shut ≡ cond b (shut - 2 ^ q) shut
      by false is = refl
      by true is =
          let zero : bit_at shut q * 2 ^ q ≡ 0 = sym and_is ∙ none in
          let one : bit_at shut q * 2 ^ q ≡ 1 * 2 ^ q = ap (λ (x : ℕ). x * 2 ^ q) (eqb-true (bit_at shut q) 1 is) in
          let some = pow_pos q in absurd (omega arith)

  -- and one that is there
  module _ (some : bit_and shut (1 * 2 ^ q % 65536) ≡ 0 → ⊥) where
    is_one : bit_at shut q ≡ 1
    is_one =
        let low = bit_at-lt shut q in
        let other : bit_at shut q ≡ 0 → ⊥ = λ zero. some (and_is ∙ ap (λ (x : ℕ). x * 2 ^ q) zero ∙ (let e : 0 * 2 ^ q ≡ 0 = omega arith in e)) in
        omega (arith, other)

    pub has_bit : 1 * 2 ^ q % 65536 ≤ shut
    has_bit =
        let least : bit_and shut (2 ^ q) ≤ shut = and_le_l shut (2 ^ q) in
        let is : bit_and shut (2 ^ q) ≡ 1 * 2 ^ q = and_pow shut q ∙ ap (λ (x : ℕ). x * 2 ^ q) is_one in
        let bit = bit_is q few in omega arith

    pub opens : shut - 1 * 2 ^ q % 65536 ≡ open_with q shut
    opens = ap (λ (x : ℕ). shut - x) (bit_is q few) ∙ sym (ap (λ (b : Bool). cond b (shut - 2 ^ q) shut) (eq-eqb (bit_at shut q) 1 is_one))
