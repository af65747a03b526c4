-- Of each number one desk gave words.
use Rattle.std.proofs.Common.{◌≡◌, ◌<◌, ◌≤◌, ◌≢◌, ◌==◌, ℕ, zero, suc, ◌+◌, nat_lt, Bool, true, false, true≢false, cond, List, [], ◌∷◌, ◌++◌, map, append-nil, sym, refl, ap, ◌∙◌, eq-eqb, eqb-true, arith}
use borrow.Author.Tests.{ltb-false, ltb-true}
use Rattle.std.specs.List.{AllByRecursion, range_with_len}
use Rattle.std.specs.List.Sorted.{IsPermutation}
use Rattle.event_worlds.specs.counted_items.Weights.{weigh}
use Rattle.event_worlds.proofs.counted_items.Sums.{same-IsPermutation}
use Rattle.event_worlds.proofs.counted_items.Weighing.{weigh-map}
use Rattle.event_worlds.specs.tuple_account.Places.{before, spans}

-- ---- spans of one source

spans-here : (n count s j : ℕ) → (s == n) ≡ true → spans n 0 count s j ≡ before count j
spans-here n count s j is =
    ap (λ (b : Bool). cond b (cond (nat_lt j 0) 0 (before (0 + count) j)) 0) is ∙ ap (λ (b : Bool). cond b 0 (before (0 + count) j)) (none (nat_lt j 0) refl) ∙ ap (λ (k : ℕ). before k j) (let e : 0 + count ≡ count = omega arith in e)
  where
    none : (b : Bool) → nat_lt j 0 ≡ b → nat_lt j 0 ≡ false
    none false is = is
    none true is = absurd (let l = ltb-true j 0 is in omega arith)

spans-else : (n count s j : ℕ) → (s == n) ≡ false → spans n 0 count s j ≡ 0
spans-else n count s j is = ap (λ (b : Bool). cond b (cond (nat_lt j 0) 0 (before (0 + count) j)) 0) is

-- ---- how often a number is one of a range

abbrev pub is_at : ℕ → ℕ → ℕ
is_at s m = cond (s == m) 1 0

at-same : (s m : ℕ) → s ≡ m → is_at s m ≡ 1
at-same s m is = ap (λ (b : Bool). cond b (suc zero) zero) (eq-eqb s m is)

at-other : (s m : ℕ) → s ≢ m → is_at s m ≡ 0
at-other s m other = cases (s == m) refl
  where
    cases : (b : Bool) → (s == m) ≡ b → is_at s m ≡ 0
    cases true is = absurd (other (eqb-true s m is))
    cases false is = ap (λ (b : Bool). cond b (suc zero) zero) is

range-none : (s k n : ℕ) → s < k → weigh (is_at s) (range_with_len k n) ≡ 0
range-none s k zero below = refl
range-none s k (suc n) below = let a = at-other s k (λ is. omega arith) in let rest = range-none s (k + 1) n (omega arith) in omega arith

range-past : (s k n : ℕ) → k + n ≤ s → weigh (is_at s) (range_with_len k n) ≡ 0
range-past s k zero past = refl
range-past s k (suc n) past = let a = at-other s k (λ is. omega arith) in let rest = range-past s (k + 1) n (omega arith) in omega arith

past : (s k : ℕ) → k ≤ s → (s ≡ k → ⊥) → k + 1 ≤ s
past s k above other = omega arith

range-one : (s k n : ℕ) → k ≤ s → s < k + n → weigh (is_at s) (range_with_len k n) ≡ 1
range-one s k zero above below = absurd (omega arith)
range-one s k (suc n) above below = cases (λ over. range-one s (k + 1) n over (omega arith)) (s == k) refl
  where
    cases : (k + 1 ≤ s → weigh (is_at s) (range_with_len (k + 1) n) ≡ 1) → (b : Bool) → (s == k) ≡ b → weigh (is_at s) (range_with_len k (suc n)) ≡ 1
    cases on true is = let same = eqb-true s k is in let a = at-same s k same in let rest = range-none s (k + 1) n (omega arith) in omega arith
    cases on false is =
        let other : s ≢ k = λ same. true≢false (sym (eq-eqb s k same) ∙ is) in
        let a = at-other s k other in
        let rest = on (past s k above other) in omega arith

-- ---- items with numbers and words

module _ {X : Type 0} (number : X → ℕ) (ids : X → List ℕ) where
  -- how many items have a number, and the words of them
  abbrev pub count_of : ℕ → List X → ℕ
  count_of s xs = weigh (λ (x : X). is_at s (number x)) xs

  abbrev pub words_of : ℕ → List X → List ℕ
  words_of s [] = []
  words_of s (x ∷ xs) = cond (s == number x) (ids x) [] ++ words_of s xs

  no-words : (s : ℕ) (xs : List X) → count_of s xs ≡ 0 → words_of s xs ≡ []
  no-words s [] none = refl
  no-words s (x ∷ xs) none = cases (λ less. no-words s xs less) (s == number x) refl
    where
      cases : (count_of s xs ≡ 0 → words_of s xs ≡ []) → (b : Bool) → (s == number x) ≡ b → cond (s == number x) (ids x) [] ++ words_of s xs ≡ []
      cases on true is = absurd (let a = ap (λ (b : Bool). cond b (suc zero) zero) is in omega arith)
      cases on false is = ap (λ (b : Bool). cond b (ids x) [] ++ words_of s xs) is ∙ on (let a = ap (λ (b : Bool). cond b (suc zero) zero) is in omega arith)

  pub no-spans : (count : X → ℕ) (s j : ℕ) (xs : List X) → count_of s xs ≡ 0 → weigh (λ (x : X). spans (number x) 0 (count x) s j) xs ≡ 0
  no-spans count s j [] none = refl
  no-spans count s j (x ∷ xs) none = cases (λ less. no-spans count s j xs less) (s == number x) refl
    where
      cases : (count_of s xs ≡ 0 → weigh (λ (x : X). spans (number x) 0 (count x) s j) xs ≡ 0) → (b : Bool) → (s == number x) ≡ b → spans (number x) 0 (count x) s j + weigh (λ (x : X). spans (number x) 0 (count x) s j) xs ≡ 0
      cases on true is = absurd (let a = ap (λ (b : Bool). cond b (suc zero) zero) is in omega arith)
      cases on false is = let a = spans-else (number x) (count x) s j is in let rest = on (let a = ap (λ (b : Bool). cond b (suc zero) zero) is in omega arith) in omega arith

  -- the one item that has a number
  pub record One (P : X → Type 0) (s : ℕ) (xs : List X) : Type 0 where
    pub item : X
    pub is : number item ≡ s
    pub words : words_of s xs ≡ ids item
    pub holds : P item
    pub covers : (count : X → ℕ) (j : ℕ) → weigh (λ (x : X). spans (number x) 0 (count x) s j) xs ≡ before (count item) j

  pub the-one : (P : X → Type 0) (s : ℕ) (xs : List X) → AllByRecursion P xs → count_of s xs ≡ 1 → One P s xs
  the-one P s [] all one = absurd (omega arith)
  the-one P s (x ∷ xs) all one = cases (λ same. the-one P s xs all.1 same) (s == number x) refl
    where
      cases : (count_of s xs ≡ 1 → One P s xs) → (b : Bool) → (s == number x) ≡ b → One P s (x ∷ xs)
      cases on true is =
          let none : count_of s xs ≡ 0 = let a = ap (λ (b : Bool). cond b (suc zero) zero) is in omega arith in record {
            item = x;
            is = sym (eqb-true s (number x) is);
            words = ap (λ (b : Bool). cond b (ids x) [] ++ words_of s xs) is ∙ ap (λ ws. ids x ++ ws) (no-words s xs none) ∙ append-nil (ids x);
            holds = all.0;
            covers = λ count j. let a = spans-here (number x) (count x) s j is in let rest = no-spans count s j xs none in omega arith;
          }
      cases on false is =
          let rest = on (let a = ap (λ (b : Bool). cond b (suc zero) zero) is in omega arith) in record {
            item = rest.item;
            is = rest.is;
            words = ap (λ (b : Bool). cond b (ids x) [] ++ words_of s xs) is ∙ rest.words;
            holds = rest.holds;
            covers = λ count j. let a = spans-else (number x) (count x) s j is in let r = rest.covers count j in omega arith;
          }

  -- each item has the words of its number
  counts-itself : (xs : List X) → AllByRecursion (λ x. 1 ≤ count_of (number x) xs) xs
  counts-itself [] = tt
  counts-itself (y ∷ ys) = (let a = at-same (number y) (number y) refl in omega arith, weaker ys (counts-itself ys))
    where
      weaker : (zs : List X) → AllByRecursion (λ x. 1 ≤ count_of (number x) ys) zs → AllByRecursion (λ x. 1 ≤ count_of (number x) (y ∷ ys)) zs
      weaker [] all = tt
      weaker (z ∷ zs) all = (let a = all.0 in omega arith, weaker zs all.1)

  pub own-words : (xs : List X) → ((s : ℕ) → count_of s xs ≤ 1) → AllByRecursion (λ x. words_of (number x) xs ≡ ids x) xs
  own-words [] few = tt
  own-words (y ∷ ys) few =
      let here = few (number y) in
      let a = at-same (number y) (number y) refl in (
        ap (λ (b : Bool). cond b (ids y) [] ++ words_of (number y) ys) (eq-eqb (number y) (number y) refl) ∙ ap (λ ws. ids y ++ ws) (no-words (number y) ys (omega arith)) ∙ append-nil (ids y),
        later ys (counts-itself ys) (own-words ys (λ s. let f = few s in omega arith)),
      )
    where
      later : (zs : List X) → AllByRecursion (λ x. 1 ≤ count_of (number x) ys) zs → AllByRecursion (λ x. words_of (number x) ys ≡ ids x) zs → AllByRecursion (λ x. words_of (number x) (y ∷ ys) ≡ ids x) zs
      later [] there all = tt
      later (z ∷ zs) there all = (other z (number z == number y) refl there.0 all.0, later zs there.1 all.1)
        where
          other : (z : X) (b : Bool) → (number z == number y) ≡ b → 1 ≤ count_of (number z) ys → words_of (number z) ys ≡ ids z → words_of (number z) (y ∷ ys) ≡ ids z
          other z true is there own = absurd (let f = few (number z) in let a = ap (λ (b : Bool). cond b (suc zero) zero) is in omega arith)
          other z false is there own = ap (λ (b : Bool). cond b (ids y) [] ++ words_of (number z) ys) is ∙ own

  -- items whose numbers are those below a count
  module _ (xs : List X) (n : ℕ) (are : IsPermutation (map number xs) (range_with_len 0 n)) where
    counts-as : (s : ℕ) → count_of s xs ≡ weigh (is_at s) (range_with_len 0 n)
    counts-as s = sym (weigh-map (is_at s) number xs) ∙ same-IsPermutation (map number xs) (range_with_len 0 n) are (is_at s)

    pub count-one : (s : ℕ) → s < n → count_of s xs ≡ 1
    count-one s below = counts-as s ∙ range-one s 0 n (omega arith) (omega arith)

    pub count-none : (s : ℕ) → n ≤ s → count_of s xs ≡ 0
    count-none s above = counts-as s ∙ range-past s 0 n (omega arith)

    pub count-few : (s : ℕ) → count_of s xs ≤ 1
    count-few s = cases (nat_lt s n) refl
      where
        cases : (b : Bool) → nat_lt s n ≡ b → count_of s xs ≤ 1
        cases true is = let e = count-one s (ltb-true s n is) in omega arith
        cases false is = let e = count-none s (ltb-false s n is) in omega arith

    pub none-given : (s : ℕ) → n ≤ s → words_of s xs ≡ []
    none-given s above = no-words s xs (count-none s above)
