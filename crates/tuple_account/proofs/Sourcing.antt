-- All sources together gave the words below their counts, each once.
use Rattle.std.proofs.Common.{◌≡◌, ◌<◌, ◌≤◌, ℕ, zero, suc, ◌+◌, ◌==◌, nat_lt, Bool, true, false, cond, true≢false, eqb-true, eq-eqb, ltb-true, ltb-false, sym, refl, ap, ◌∙◌, arith}
use Rattle.tuple_account.specs.Places.{before, spans}
use Rattle.tuple_account.specs.Stretches.{sum_below}
use Rattle.tuple_account.proofs.Placing.{before-false, span-is}

here : (n given s j : ℕ) → s ≡ n → spans n 0 given s j ≡ before given j
here n given s j same = cases (s == n) refl
  where
    cases : (b : Bool) → (s == n) ≡ b → cond b (cond (nat_lt j 0) 0 (before (0 + given) j)) 0 ≡ before given j
    cases true is =
        let x = span-is 0 given j in
        let o : before 0 j ≡ 0 = before-false 0 j (omega arith) in
        let d : before (0 + given) j ≡ before given j = ap (λ (c : ℕ). before c j) (let e : 0 + given ≡ given = omega arith in e) in omega arith
    cases false is = absurd (true≢false (sym (eq-eqb s n same) ∙ is))

elsewhere : (n given s j : ℕ) → (s ≡ n → ⊥) → spans n 0 given s j ≡ 0
elsewhere n given s j other = cases (s == n) refl
  where
    cases : (b : Bool) → (s == n) ≡ b → cond b (cond (nat_lt j 0) 0 (before (0 + given) j)) 0 ≡ 0
    cases true is = absurd (other (eqb-true s n is))
    cases false is = refl

none-above : (counts : ℕ → ℕ) (m s j : ℕ) → m ≤ s → sum_below (λ n. spans n 0 (counts n) s j) m ≡ 0
none-above counts zero s j above = refl
none-above counts (suc m) s j above = let first = elsewhere m (counts m) s j (λ same. omega arith) in let rest = none-above counts m s j (omega arith) in omega arith

one-source : (counts : ℕ → ℕ) (m s j : ℕ) → s < m → sum_below (λ n. spans n 0 (counts n) s j) m ≡ before (counts s) j
one-source counts zero s j below = absurd (omega arith)
one-source counts (suc k) s j below = at (s == k) refl (λ less. one-source counts k s j less)
  where
    at : (b : Bool) → (s == k) ≡ b → (s < k → sum_below (λ n. spans n 0 (counts n) s j) k ≡ before (counts s) j)
        → sum_below (λ n. spans n 0 (counts n) s j) k + spans k 0 (counts k) s j ≡ before (counts s) j
    at true is later =
        let same = eqb-true s k is in
        let last = here k (counts k) s j same in
        let c : before (counts k) j ≡ before (counts s) j = ap (λ (i : ℕ). before (counts i) j) (sym same) in
        let rest = none-above counts k s j (omega arith) in omega arith
    at false is later =
        let other : s ≡ k → ⊥ = λ same. true≢false (sym (eq-eqb s k same) ∙ is) in
        let last = elsewhere k (counts k) s j other in
        let rest = later (omega (arith, other)) in omega arith

pub all-sources : (counts : ℕ → ℕ) (m : ℕ) → ((s : ℕ) → m ≤ s → counts s ≡ 0) → (s j : ℕ) → sum_below (λ n. spans n 0 (counts n) s j) m ≡ before (counts s) j
all-sources counts m past s j = cases (nat_lt s m) refl
  where
    cases : (b : Bool) → nat_lt s m ≡ b → sum_below (λ n. spans n 0 (counts n) s j) m ≡ before (counts s) j
    cases true is = one-source counts m s j (ltb-true s m is)
    cases false is =
        let above = ltb-false s m is in
        let none = none-above counts m s j above in
        let c : before (counts s) j ≡ before 0 j = ap (λ (i : ℕ). before i j) (past s above) in
        let o : before 0 j ≡ 0 = before-false 0 j (omega arith) in omega arith
