-- Equality of roots.
use Rattle.std.proofs.Common.{◌≡◌, Bool, true, false, true≢false, refl, arith, ap, ◌∙◌, sym}
use Rattle.std.proofs.lemmas.Bool.Decides.{nat_tests}
use Rattle.storm_values.specs.declared.value.Root.{Root}
use Rattle.rotating_ledger.specs.Held.{root_eq}

pub root_eq-refl : (a : Root) → root_eq a a ≡ true
root_eq-refl a = grind (arith, nat_tests)

pub root_eq-same : (a b : Root) → root_eq a b ≡ true → a ≡ b
root_eq-same a b same =
    let one : a.txid ≡ b.txid = grind (arith, nat_tests) in
    let two : a.attempt ≡ b.attempt = grind (arith, nat_tests) in
    λ i. record { txid = one i; attempt = two i }

-- roots that differ do so either way round
pub root_eq-turned : (a b : Root) → root_eq a b ≡ false → root_eq b a ≡ false
root_eq-turned a b apart = cases (root_eq b a) refl
  where
    cases : (c : Bool) → root_eq b a ≡ c → c ≡ false
    cases true is = absurd (true≢false (sym (root_eq-refl a) ∙ ap (root_eq a) (sym (root_eq-same b a is)) ∙ apart))
    cases false is = refl
