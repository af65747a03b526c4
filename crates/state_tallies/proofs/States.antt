-- The counts of all states, by their numbers.
use Rattle.std.proofs.Common.{◌≡◌, ◌≢◌, ℕ, zero, suc, nat_lt, ◌++◌, ◌+◌, ◌-◌, ◌^◌, ◌≤◌, ◌<◌, ◌==◌, Bool, true, false, cond, eqb-true, eq-eqb, true≢false, List, [], ◌∷◌, map, get_or, set, length, replicate, refl, sym, ap, subst, ◌∙◌, arith}
use Rattle.std.proofs.lemmas.Bool.{lt-ltb, le-ltb, ltb-true, ltb-false}
use Rattle.std.proofs.lemmas.List.{get_or-map, get_or-set_same, get_or-set_other, map-set, length-map}
use Rattle.state_tallies.specs.declared.tallies.KeyCount.{KeyCount}
use Rattle.state_tallies.specs.Tallies.{AreFew, AreFewIn, HasMore, at_key, at_text, capped, count_in, count_of}

abbrev Counted : Type 0
Counted = List (List KeyCount)

pub get_or-replicate_same : {X : Type 0} (n i : ℕ) (x : X) → get_or (replicate n x) i x ≡ x
get_or-replicate_same zero i x = refl
get_or-replicate_same (suc n) zero x = refl
get_or-replicate_same (suc n) (suc i) x = get_or-replicate_same n i x

pub none_counted : (n state : ℕ) (key : List ℕ) → count_of (replicate n []) state key ≡ 0
none_counted n state key = ap (λ (counts : List KeyCount). count_in counts key) (get_or-replicate_same {X = List KeyCount} n state [])

-- other counts for one state
module _ (all : Counted) (state : ℕ) (new : List KeyCount) (within : state < length all) where
  pub at_state : (s : ℕ) (k : List ℕ) → count_of (set all state new) s k ≡ cond (state == s) (count_in new k) (count_of all s k)
  at_state s k = by (state == s) refl
    where
      by : (b : Bool) → (state == s) ≡ b → count_of (set all state new) s k ≡ cond b (count_in new k) (count_of all s k)
      by true is =
          ap (λ (n : ℕ). count_of (set all state new) n k) (sym (eqb-true state s is))
          ∙ ap (λ (counts : List KeyCount). count_in counts k) (get_or-set_same all state new [] within)
      by false is = ap (λ (counts : List KeyCount). count_in counts k) (get_or-set_other all state s new [] (λ same. true≢false (sym (eq-eqb state s (sym same)) ∙ is)))

  -- more for its keys
  pub more_in : (more : List ℕ → ℕ) → AreFew all → HasMore (get_or all state []) more new → (s : ℕ) (k : List ℕ)
      → count_of (set all state new) s k ≡ capped (count_of all s k + cond (state == s) (more k) 0)
  more_in more few has s k = at_state s k ∙ by (state == s) refl
    where
      by : (b : Bool) → (state == s) ≡ b → cond b (count_in new k) (count_of all s k) ≡ capped (count_of all s k + cond b (more k) 0)
      by true is = has k ∙ ap (λ (n : ℕ). capped (count_of all n k + more k)) (eqb-true state s is)
      by false is = let fits = few s k in omega (arith, fits)

  pub same_in : ((k : List ℕ) → count_in new k ≡ count_in (get_or all state []) k) → (s : ℕ) (k : List ℕ) → count_of (set all state new) s k ≡ count_of all s k
  same_in same s k = at_state s k ∙ by (state == s) refl
    where
      by : (b : Bool) → (state == s) ≡ b → cond b (count_in new k) (count_of all s k) ≡ count_of all s k
      by true is = same k ∙ ap (λ (n : ℕ). count_of all n k) (eqb-true state s is)
      by false is = refl

  pub few_in : AreFew all → AreFewIn new → AreFew (set all state new)
  few_in few fits s k = subst (λ (n : ℕ). n ≤ 2 ^ 64 - 1) (sym (at_state s k)) (by (state == s))
    where
      by : (b : Bool) → cond b (count_in new k) (count_of all s k) ≤ 2 ^ 64 - 1
      by true = fits k
      by false = few s k

pub few_more : (all made : Counted) (more : ℕ → List ℕ → ℕ) → ((s : ℕ) (k : List ℕ) → count_of made s k ≡ capped (count_of all s k + more s k)) → AreFew made
few_more all made more is s k = let here = is s k in omega (arith, here)

-- ---- the maps behind the counts

module _ {M : Type 0} (f : M → List KeyCount) (maps : List M) (i : ℕ) (old new : M) (within : i < length maps) (read : old ≡ get_or maps i old) where
  pub was : get_or (map f maps) i [] ≡ f old
  was = get_or-map f maps i old [] within ∙ ap f (sym read)

  few_within : i < length (map f maps)
  few_within = let same = length-map maps f in omega (arith, same, within)

  pub few_at : AreFew (map f maps) → AreFewIn (f old)
  few_at few k = subst (λ (counts : List KeyCount). count_in counts k ≤ 2 ^ 64 - 1) was (few i k)

  pub put_more : (more : List ℕ → ℕ) → AreFew (map f maps) → HasMore (f old) more (f new) → (s : ℕ) (k : List ℕ)
      → count_of (map f (set maps i new)) s k ≡ capped (count_of (map f maps) s k + cond (i == s) (more k) 0)
  put_more more few has s k =
      ap (λ (all : List (List KeyCount)). count_of all s k) (map-set f maps i new)
      ∙ more_in (map f maps) i (f new) few_within more few (subst (λ (counts : List KeyCount). HasMore counts more (f new)) (sym was) has) s k

  pub put_same : f new ≡ f old → (s : ℕ) (k : List ℕ) → count_of (map f (set maps i new)) s k ≡ count_of (map f maps) s k
  put_same same s k =
      ap (λ (all : List (List KeyCount)). count_of all s k) (map-set f maps i new)
      ∙ same_in (map f maps) i (f new) few_within (λ key. ap (λ (counts : List KeyCount). count_in counts key) (same ∙ sym was)) s k

  pub put_few : AreFew (map f maps) → AreFewIn (f new) → AreFew (map f (set maps i new))
  put_few few fits = subst AreFew (sym (map-set f maps i new)) (few_in (map f maps) i (f new) few_within few fits)

-- ---- one more state at the end

pub count_push_same : (all made : Counted) (x y : List KeyCount) → length made ≡ length all → ((k : List ℕ) → count_in y k ≡ count_in x k) → ((s : ℕ) (k : List ℕ) → count_of made s k ≡ count_of all s k)
    → (s : ℕ) (k : List ℕ) → count_of (made ++ y ∷ []) s k ≡ count_of (all ++ x ∷ []) s k
count_push_same [] [] x y long same before zero k = same k
count_push_same [] [] x y long same before (suc s) k = refl
count_push_same [] (m ∷ made) x y long same before s k = absurd (omega (arith, long))
count_push_same (a ∷ all) [] x y long same before s k = absurd (omega (arith, long))
count_push_same (a ∷ all) (m ∷ made) x y long same before zero k = before zero k
count_push_same (a ∷ all) (m ∷ made) x y long same before (suc s) k = count_push_same all made x y (omega (arith, long)) same (λ n. before (suc n)) s k

-- ---- the first states have more

lt_itself : (s n : ℕ) → n ≡ s → nat_lt s n ≡ false
lt_itself s n same = le-ltb s n (omega (arith, same))

lt_next : (s n : ℕ) → (n == s) ≡ false → nat_lt s (n + 1) ≡ nat_lt s n
lt_next s n differ = by (nat_lt s n) refl
  where
    by : (b : Bool) → nat_lt s n ≡ b → nat_lt s (n + 1) ≡ b
    by true is = let less = ltb-true s n is in lt-ltb s (n + 1) (omega (arith, less))
    by false is =
        let past = ltb-false s n is in
        let apart : n ≢ s = λ same. true≢false (sym (eq-eqb n s same) ∙ differ) in
        le-ltb s (n + 1) (omega (arith, past, apart))

-- the counts where the first n states have those of others too
pub count_first : (all mid new others : Counted) (n : ℕ) → ((s : ℕ) (k : List ℕ) → count_of mid s k ≡ capped (count_of all s k + cond (nat_lt s n) (count_of others s k) 0))
    → ((s : ℕ) (k : List ℕ) → count_of new s k ≡ capped (count_of mid s k + cond (n == s) (count_of others n k) 0))
    → (s : ℕ) (k : List ℕ) → count_of new s k ≡ capped (count_of all s k + cond (nat_lt s (n + 1)) (count_of others s k) 0)
count_first all mid new others n before step s k = step s k ∙ by (n == s) refl (before s k)
  where
    by : (b : Bool) → (n == s) ≡ b → count_of mid s k ≡ capped (count_of all s k + cond (nat_lt s n) (count_of others s k) 0) → capped (count_of mid s k + cond b (count_of others n k) 0) ≡ capped (count_of all s k + cond (nat_lt s (n + 1)) (count_of others s k) 0)
    by true is mid_is =
        let same : n ≡ s = eqb-true n s is in
        let not_yet : nat_lt s n ≡ false = lt_itself s n same in
        let now : nat_lt s (n + 1) ≡ true = lt-ltb s (n + 1) (omega (arith, same)) in
        let other : count_of others n k ≡ count_of others s k = ap (λ (m : ℕ). count_of others m k) same in
        let m : count_of mid s k ≡ capped (count_of all s k + 0) = rw not_yet at mid_is in
        rw (now, other) (omega (arith, m))
    by false is mid_is = rw (lt_next s n is) (omega (arith, mid_is))

pub count_none : (all others : Counted) → AreFew all → (s : ℕ) (k : List ℕ) → count_of all s k ≡ capped (count_of all s k + cond (nat_lt s 0) (count_of others s k) 0)
count_none all others few s k = let fits = few s k in let none : nat_lt s 0 ≡ false = le-ltb s 0 (omega arith) in rw none (omega (arith, fits))

pub count_all : (all new others : Counted) (n : ℕ) → n ≡ length others → ((s : ℕ) (k : List ℕ) → count_of new s k ≡ capped (count_of all s k + cond (nat_lt s n) (count_of others s k) 0))
    → (s : ℕ) (k : List ℕ) → count_of new s k ≡ capped (count_of all s k + count_of others s k)
count_all all new others n is first s k = first s k ∙ by (nat_lt s n) refl
  where
    past : (xs : Counted) (i : ℕ) → length xs ≤ i → count_of xs i k ≡ 0
    past [] i beyond = refl
    past (x ∷ xs) zero beyond = absurd (omega (arith, beyond))
    past (x ∷ xs) (suc i) beyond = past xs i (omega (arith, beyond))

    by : (b : Bool) → nat_lt s n ≡ b → capped (count_of all s k + cond b (count_of others s k) 0) ≡ capped (count_of all s k + count_of others s k)
    by true less = refl
    by false more = let none = past others s (let le = ltb-false s n more in omega (arith, is, le)) in omega (arith, none)
