-- Spans of words.
use Rattle.std.proofs.Common.{◌≡◌, ◌<◌, ◌≤◌, ◌⊎◌, inl, inr, ℕ, zero, suc, ◌+◌, ◌-◌, ◌^◌, ◌==◌, nat_lt, min, Bool, true, false, cond, true≢false, eq-eqb, ltb-true, ltb-false, List, length, map, sym, refl, ap, ◌∙◌, arith}
use Rattle.std.specs.List.{range_with_len}
use Rattle.tuple_account.specs.Places.{before, spans, HasWords}
use Rattle.tuple_account.specs.Stretches.{sum_below}

pub before-true : (k j : ℕ) → j < k → before k j ≡ 1
before-true k j below = cases (nat_lt j k) refl
  where
    cases : (b : Bool) → nat_lt j k ≡ b → ◌≡◌ {A = ℕ} (cond b 1 0) 1
    cases true is = refl
    cases false is = let above = ltb-false j k is in absurd (omega arith)

pub before-false : (k j : ℕ) → k ≤ j → before k j ≡ 0
before-false k j above = cases (nat_lt j k) refl
  where
    cases : (b : Bool) → nat_lt j k ≡ b → ◌≡◌ {A = ℕ} (cond b 1 0) 0
    cases true is = let below = ltb-true j k is in absurd (omega arith)
    cases false is = refl

pub before-le : (k j : ℕ) → before k j ≤ 1
before-le k j = cases (nat_lt j k)
  where
    cases : (b : Bool) → cond b 1 0 ≤ 1
    cases true = omega arith
    cases false = omega arith

-- a place that weighs something is below
pub before-below : (k j : ℕ) → 1 ≤ before k j → j < k
before-below k j some = cases (nat_lt j k) refl some
  where
    cases : (b : Bool) → nat_lt j k ≡ b → 1 ≤ cond b 1 0 → j < k
    cases true is one = ltb-true j k is
    cases false is one = absurd (omega arith)

-- a span is what comes before its end and not before its start
pub span-is : (first count j : ℕ) → cond (nat_lt j first) 0 (before (first + count) j) + before first j ≡ before (first + count) j
span-is first count j = cases (nat_lt j first) refl
  where
    cases : (b : Bool) → nat_lt j first ≡ b → cond b 0 (before (first + count) j) + cond b 1 0 ≡ before (first + count) j
    cases true is = let below = ltb-true j first is in let e = before-true (first + count) j (omega arith) in omega arith
    cases false is = omega arith

pub spans-none : (source first s j : ℕ) → spans source first 0 s j ≡ 0
spans-none source first s j = cases (s == source)
  where
    inner : (b : Bool) → nat_lt j first ≡ b → cond b 0 (before (first + 0) j) ≡ 0
    inner true is = refl
    inner false is = let above = ltb-false j first is in before-false (first + 0) j (omega arith)

    cases : (b : Bool) → cond b (cond (nat_lt j first) 0 (before (first + 0) j)) 0 ≡ 0
    cases true = inner (nat_lt j first) refl
    cases false = refl

-- the next words come to those of a source
pub spans-more : (source given k s j : ℕ) → spans source 0 given s j + spans source given k s j ≡ spans source 0 (given + k) s j
spans-more source given k s j = cases (s == source)
  where
    cases : (b : Bool) → cond b (cond (nat_lt j 0) 0 (before (0 + given) j)) 0 + cond b (cond (nat_lt j given) 0 (before (given + k) j)) 0 ≡ cond b (cond (nat_lt j 0) 0 (before (0 + (given + k)) j)) 0
    cases true =
        let x = span-is 0 given j in
        let y = span-is given k j in
        let z = span-is 0 (given + k) j in
        let o : before 0 j ≡ 0 = before-false 0 j (omega arith) in
        let d : before (0 + given) j ≡ before given j = ap (λ (c : ℕ). before c j) (let e : 0 + given ≡ given = omega arith in e) in
        let e : before (0 + (given + k)) j ≡ before (given + k) j = ap (λ (c : ℕ). before c j) (let e : 0 + (given + k) ≡ given + k = omega arith in e) in omega arith
    cases false = refl

-- ---- the last word of a span

span-last : (source at count : ℕ) → 1 ≤ count → spans source at count source (at + count - 1) ≡ 1
span-last source at count some = cases (source == source) refl
  where
    inner : (b : Bool) → nat_lt (at + count - 1) at ≡ b → cond b 0 (before (at + count) (at + count - 1)) ≡ 1
    inner true is = let below = ltb-true (at + count - 1) at is in absurd (omega arith)
    inner false is = before-true (at + count) (at + count - 1) (omega arith)

    cases : (b : Bool) → (source == source) ≡ b → cond b (cond (nat_lt (at + count - 1) at) 0 (before (at + count) (at + count - 1))) 0 ≡ 1
    cases true is = inner (nat_lt (at + count - 1) at) refl
    cases false is = absurd (true≢false (sym (eq-eqb source source refl) ∙ is))

-- a span among the words that were given ends among them
pub span-ends : (source at count given : ℕ) → 1 ≤ count → ((j : ℕ) → spans source at count source j ≤ before given j) → at + count ≤ given
span-ends source at count given some within =
    let last = span-last source at count some in
    let w = within (at + count - 1) in
    let below = before-below given (at + count - 1) (omega arith) in omega arith

-- ---- places that end at 2^64 - 1

abbrev pub ended : ℕ → ℕ
ended at = min at (2 ^ 64 - 1)

-- the place is the one that a message tells, or there is no word
abbrev pub Shown : ℕ → ℕ → Type 0
Shown at count = (count ≡ 0) ⊎ (ended at ≡ at)

pub shown : (source at count given : ℕ) → given < 2 ^ 64 → ((j : ℕ) → spans source at count source j ≤ before given j) → Shown at count
shown source at count given few within = cases count refl
  where
    cases : (k : ℕ) → count ≡ k → Shown at count
    cases zero is = inl is
    cases (suc k) is = let e = span-ends source at count given (omega arith) within in inr (omega arith)

pub span-shown : (source at count s j : ℕ) → Shown at count → spans source (ended at) count s j ≡ spans source at count s j
span-shown source at count s j (inl none) = ap (λ (k : ℕ). spans source (ended at) k s j) none ∙ spans-none source (ended at) s j ∙ sym (ap (λ (k : ℕ). spans source at k s j) none ∙ spans-none source at s j)
span-shown source at count s j (inr same) = ap (λ (k : ℕ). spans source k count s j) same

pub words-shown : (words : ℕ → ℕ → ℕ) (source at : ℕ) (ids : List ℕ) → Shown at (length ids) → HasWords words source at ids → HasWords words source (ended at) ids
words-shown words source at ids (inl none) is = is ∙ ap (λ (k : ℕ). map (words source) (range_with_len at k)) none ∙ sym (ap (λ (k : ℕ). map (words source) (range_with_len (ended at) k)) none)
words-shown words source at ids (inr same) is = is ∙ ap (λ (k : ℕ). map (words source) (range_with_len k (length ids))) (sym same)

-- ---- sums over places

pub sum-add : (g h : ℕ → ℕ) (n : ℕ) → sum_below (λ i. g i + h i) n ≡ sum_below g n + sum_below h n
sum-add g h zero = refl
sum-add g h (suc n) = let rest = sum-add g h n in omega arith

pub sum-same : (g h : ℕ → ℕ) (n : ℕ) → ((i : ℕ) → i < n → g i ≡ h i) → sum_below g n ≡ sum_below h n
sum-same g h zero same = refl
sum-same g h (suc n) same = let here = same n (omega arith) in let rest = sum-same g h n (λ i below. same i (omega arith)) in omega arith

pub sum-zero : (n : ℕ) → sum_below (λ i. 0) n ≡ 0
sum-zero zero = refl
sum-zero (suc n) = let rest = sum-zero n in omega arith

pub sum-before : (k n : ℕ) → sum_below (before k) n ≡ min k n
sum-before k zero = omega arith
sum-before k (suc n) = cases (nat_lt n k) refl (sum-before k n)
  where
    cases : (b : Bool) → nat_lt n k ≡ b → sum_below (before k) n ≡ min k n → sum_below (before k) n + cond b 1 0 ≡ min k (suc n)
    cases true is rest = let below = ltb-true n k is in omega arith
    cases false is rest = let above = ltb-false n k is in omega arith

-- of the words below a number no more are a span's than it has
pub sum-span : (source first count s n : ℕ) → sum_below (λ j. spans source first count s j) n ≤ cond (s == source) count 0
sum-span source first count s n = cases (s == source)
  where
    cases : (b : Bool) → sum_below (λ j. cond b (cond (nat_lt j first) 0 (before (first + count) j)) 0) n ≤ cond b count 0
    cases true =
        let a = sum-add (λ j. cond (nat_lt j first) 0 (before (first + count) j)) (before first) n in
        let e = sum-same (λ j. cond (nat_lt j first) 0 (before (first + count) j) + before first j) (before (first + count)) n (λ j below. span-is first count j) in
        let x = sum-before first n in
        let y = sum-before (first + count) n in omega arith
    cases false = let z = sum-zero n in omega arith
