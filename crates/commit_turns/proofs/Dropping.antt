-- How often attempts of a transaction are dropped.
use Rattle.std.proofs.Common.{◌≡◌, ◌⊎◌, inl, inr, ℕ, zero, suc, ◌+◌, ◌-◌, ◌*◌, ◌<◌, ◌≤◌, ◌==◌, ◌&&◌, nat_lt, Bool, true, false, cond, List, [], ◌∷◌, ◌++◌, length, map, filter, refl, ap, subst, ◌∙◌, arith, eqb-true}
use Rattle.std.specs.Prelude.{IsTrue}
use Rattle.std.specs.List.{AllByRecursion, range_with_len}
use Rattle.std.proofs.lemmas.Bool.{cases_eq, lt-ltb, ltb-true}
use Rattle.std.proofs.lemmas.List.{length-append, length-map}
use Rattle.std.proofs.lemmas.List.Elements.{filter-append}
use Rattle.tuple_account.proofs.counted_items.Weighing.{weigh-same, weigh-plus}
use Rattle.tuple_account.specs.counted_items.Weights.{weigh}
use Rattle.commit_turns.specs.declared.wait.Wait.{Wait}
use Rattle.tuple_account.specs.storm_values.declared.value.Root.{Root}
use Rattle.attempt_fates.specs.declared.fates.Attempt.{Attempt}
use Rattle.attempt_fates.specs.declared.fates.End.{End}
use Rattle.attempt_fates.specs.declared.fates.End.TheVariants as end
use Rattle.attempt_fates.specs.Fates.{aborts_of, attempt_numbers, drops_of, is_abort, is_committed, is_dropped, is_near, near_aborts}
use Rattle.commit_turns.specs.Desks.{ended_at}
use Rattle.commit_turns.proofs.Ends.{not_dropped, one_way}
use Rattle.commit_turns.proofs.Counting.{inside}
use Rattle.commit_turns.proofs.Tallies.{own, own-other, tally}

-- how many pass a test
abbrev pub count : (Attempt → Bool) → List Attempt → ℕ
count p xs = length (filter p xs)

pub count_append : (p : Attempt → Bool) (xs ys : List Attempt) → count p (xs ++ ys) ≡ count p xs + count p ys
count_append p xs ys = ap length (filter-append p xs ys) ∙ length-append (filter p xs) (filter p ys)

pub count_cons : (p : Attempt → Bool) (x : Attempt) (xs : List Attempt) → count p (x ∷ xs) ≡ cond (p x) 1 0 + count p xs
count_cons p x xs = by (p x)
  where
    by : (b : Bool) → length (cond b (x ∷ filter p xs) (filter p xs)) ≡ cond b 1 0 + length (filter p xs)
    by true = omega arith
    by false = omega arith

-- ---- those that are dropped in one step

pub count_dropped : (tick txid : ℕ) (by : Root) (ws : List Wait) → drops_of txid (map (ended_at tick (end.Dropped by)) ws) ≡ tally txid ws
count_dropped tick txid by [] = refl
count_dropped tick txid by (w ∷ ws) =
    count_cons (λ (a : Attempt). (a.root.txid == txid) && is_dropped a.end) (ended_at tick (end.Dropped by) w) (map (ended_at tick (end.Dropped by)) ws)
    ∙ one (w.root.txid == txid) (count_dropped tick txid by ws)
  where
    one : (b : Bool) → drops_of txid (map (ended_at tick (end.Dropped by)) ws) ≡ tally txid ws → cond (b && true) 1 0 + drops_of txid (map (ended_at tick (end.Dropped by)) ws) ≡ cond b 1 0 + tally txid ws
    one true rest = omega arith
    one false rest = omega arith

none_dropped_here : (how : End) (b : Bool) → is_abort how ≡ true → cond {A = ℕ} (b && is_dropped how) 1 0 ≡ 0
none_dropped_here how true fall = ap (λ (c : Bool). cond {A = ℕ} c 1 0) (not_dropped how fall)
none_dropped_here how false fall = refl

pub aborts_dropped : (txid : ℕ) (xs : List Attempt) → AllByRecursion (λ (x : Attempt). is_abort x.end ≡ true) xs → drops_of txid xs ≡ 0
aborts_dropped txid [] all = refl
aborts_dropped txid (x ∷ xs) all =
    let c = count_cons (λ (a : Attempt). (a.root.txid == txid) && is_dropped a.end) x xs in
    let z = none_dropped_here x.end (x.root.txid == txid) all.0 in
    let rest = aborts_dropped txid xs all.1 in
    omega (arith, c, z, rest)

-- where some are of a transaction, what holds of theirs holds of it
pub tally_has : (R : ℕ → Type 0) (txid : ℕ) (ws : List Wait) → AllByRecursion (λ (w : Wait). R w.root.txid) ws → (tally txid ws ≡ 0) ⊎ R txid
tally_has R txid [] all = inl refl
tally_has R txid (w ∷ ws) all =
    elim (cases_eq w.root.txid txid) [
      | inl on ↦ inr (subst R on all.0)
      | inr off ↦
          elim (tally_has R txid ws all.1) [
            | inl none ↦ inl (let o = own-other txid w.root.txid off in omega (arith, none, o))
            | inr is ↦ inr is
          ]
    ]

pub near_one : (near txid : ℕ) (a : Attempt) → is_abort a.end ≡ true → a.root.txid < txid → txid < a.root.txid + near → cond {A = ℕ} (is_near near txid a.root.txid && is_abort a.end) 1 0 ≡ 1
near_one near txid a fall lower close =
    let x : nat_lt a.root.txid txid ≡ true = lt-ltb a.root.txid txid lower in
    let y : nat_lt txid (a.root.txid + near) ≡ true = lt-ltb txid (a.root.txid + near) close in
    rw (x, y, fall) refl

-- ---- near ones are few

near_and_abort : (near txid other : ℕ) (fall : Bool) → cond {A = ℕ} (is_near near txid other && fall) 1 0 ≤ weigh (λ (u : ℕ). cond ((other == u) && fall) 1 0) (range_with_len (txid + 1 - near) near)
near_and_abort near txid other false = let z = off (is_near near txid other) in omega (arith, z)
  where
    off : (b : Bool) → cond {A = ℕ} (b && false) 1 0 ≡ 0
    off true = refl
    off false = refl
near_and_abort near txid other true = by (nat_lt other txid) refl (nat_lt txid (other + near)) refl
  where
    same : (us : List ℕ) → weigh (λ (u : ℕ). cond ((other == u) && true) 1 0) us ≡ weigh (λ (u : ℕ). own u other) us
    same [] = refl
    same (u ∷ us) = let r = same us in let z = both (other == u) in omega (arith, r, z)
      where
        both : (b : Bool) → cond {A = ℕ} (b && true) 1 0 ≡ cond {A = ℕ} b 1 0
        both true = refl
        both false = refl

    by : (b : Bool) → nat_lt other txid ≡ b → (c : Bool) → nat_lt txid (other + near) ≡ c
        → cond {A = ℕ} ((b && c) && true) 1 0 ≤ weigh (λ (u : ℕ). cond ((other == u) && true) 1 0) (range_with_len (txid + 1 - near) near)
    by false is c is_c = omega arith
    by true is false is_c = omega arith
    by true is true is_c =
        let low = ltb-true other txid is in
        let high = ltb-true txid (other + near) is_c in
        let i = inside (txid + 1 - near) near other (omega (arith, high)) (omega (arith, low, high)) in
        let s = same (range_with_len (txid + 1 - near) near) in
        omega (arith, i, s)

near_le : (near txid : ℕ) (fates : List Attempt) → near_aborts near txid fates ≤ weigh (λ (u : ℕ). aborts_of u fates) (range_with_len (txid + 1 - near) near)
near_le near txid [] = omega arith
near_le near txid (a ∷ fates) =
    let c = count_cons (λ (x : Attempt). is_near near txid x.root.txid && is_abort x.end) a fates in
    let one = near_and_abort near txid a.root.txid (is_abort a.end) in
    let rest = near_le near txid fates in
    let whole = weigh-same (λ (u : ℕ). aborts_of u (a ∷ fates)) (λ (u : ℕ). cond ((a.root.txid == u) && is_abort a.end) 1 0 + aborts_of u fates)
    (λ u. count_cons (λ (x : Attempt). (x.root.txid == u) && is_abort x.end) a fates) (range_with_len (txid + 1 - near) near) in
    let parts = weigh-plus (λ (u : ℕ). cond ((a.root.txid == u) && is_abort a.end) 1 0) (λ (u : ℕ). aborts_of u fates) (range_with_len (txid + 1 - near) near) in
    omega (arith, c, one, rest, whole, parts)

weigh_most : (f : ℕ → ℕ) (most : ℕ) → ((u : ℕ) → f u ≤ most) → (from n : ℕ) → weigh f (range_with_len from n) ≤ n * most
weigh_most f most each from zero = omega arith
weigh_most f most each from (suc n) = let r = weigh_most f most each (from + 1) n in let e = each from in omega (arith, r, e)

pub near_few : (near txid most : ℕ) (fates : List Attempt) → ((u : ℕ) → aborts_of u fates ≤ most) → near_aborts near txid fates ≤ near * most
near_few near txid most fates each =
    let a = near_le near txid fates in
    let b = weigh_most (λ (u : ℕ). aborts_of u fates) most each (txid + 1 - near) near in
    omega (arith, a, b)

-- ---- attempts of a transaction that is not committed fell or were dropped

pub numbers_split : (committed txid : ℕ) (fates : List Attempt) → AllByRecursion (λ (a : Attempt). IsTrue (is_committed a.end) → a.root.txid ≤ committed) fates → committed < txid
    → length (attempt_numbers txid fates) ≡ aborts_of txid fates + drops_of txid fates
numbers_split committed txid fates past later = length-map (filter (λ (a : Attempt). a.root.txid == txid) fates) (λ (a : Attempt). a.root.attempt) ∙ counts fates past
  where
    here : (a : Attempt) → (IsTrue (is_committed a.end) → a.root.txid ≤ committed)
        → cond {A = ℕ} (a.root.txid == txid) 1 0 ≡ cond {A = ℕ} ((a.root.txid == txid) && is_abort a.end) 1 0 + cond {A = ℕ} ((a.root.txid == txid) && is_dropped a.end) 1 0
    here a below = by (a.root.txid == txid) refl (is_committed a.end) refl
      where
        by : (b : Bool) → (a.root.txid == txid) ≡ b → (c : Bool) → is_committed a.end ≡ c
            → cond {A = ℕ} b 1 0 ≡ cond {A = ℕ} (b && is_abort a.end) 1 0 + cond {A = ℕ} (b && is_dropped a.end) 1 0
        by false off c is = refl
        by true on true is = let low = below is in let same = eqb-true a.root.txid txid on in absurd (omega (arith, low, same, later))
        by true on false is = one_way a.end true is

    counts : (xs : List Attempt) → AllByRecursion (λ (a : Attempt). IsTrue (is_committed a.end) → a.root.txid ≤ committed) xs
        → count (λ (a : Attempt). a.root.txid == txid) xs ≡ aborts_of txid xs + drops_of txid xs
    counts [] all = refl
    counts (x ∷ xs) all =
        let a = count_cons (λ (y : Attempt). y.root.txid == txid) x xs in
        let b = count_cons (λ (y : Attempt). (y.root.txid == txid) && is_abort y.end) x xs in
        let c = count_cons (λ (y : Attempt). (y.root.txid == txid) && is_dropped y.end) x xs in
        let h = here x all.0 in
        let rest = counts xs all.1 in
        omega (arith, a, b, c, h, rest)
