-- Ticks that were handed out, and their sums.
use Rattle.std.proofs.Common.{◌≡◌, ◌≤◌, ◌<◌, ℕ, ◌+◌, ◌-◌, ◌^◌, Bool, true, false, cond, List, [], ◌∷◌, ◌++◌, get_or, length, map, fold, min, sum, refl, ap, subst, arith}
use Rattle.std.specs.Prelude.{nat_le}
use Rattle.std.specs.List.{range_with_len}
use Rattle.std.proofs.lemmas.Bool.{leb-false}
use Rattle.std.proofs.lemmas.List.Sums.{sum_by-append, sum_by-cons}
use Rattle.std.proofs.Math.Nat.{min-le_left}
use Rattle.event_worlds.specs.commit_turns.Turns.{last_tick}
use Rattle.worker_stretches.proofs.event_engine.GoesLemmas.{words-append}
use Rattle.worker_rounds.specs.schedule_core.Runs.{first_answers, ticks_between}
use Rattle.storm_ticks.specs.Ticking.{handed_on}

-- ---- sums

pub sum-more : (xs : List ℕ) (n : ℕ) → sum (xs ++ n ∷ []) ≡ sum xs + n
sum-more xs n = let e = sum_by-append (λ (m : ℕ). m) xs (n ∷ []) in omega arith

more-first : (a d : ℕ) (xs : List ℕ) → sum (first_answers a xs) ≤ sum (first_answers (a + d) xs)
more-first a d xs =
    let word : ℕ → ℕ = λ k. get_or xs k 0 in
    let e = ap (λ (ys : List ℕ). sum ys) (words-append word 0 a d) in
    let f = sum_by-append (λ (m : ℕ). m) (map word (range_with_len 0 a)) (map word (range_with_len (0 + a) d)) in omega arith

-- the first answers to come have no larger sum than more of them
first-less : (a b : ℕ) (xs : List ℕ) → a ≤ b → sum (first_answers a xs) ≤ sum (first_answers b xs)
first-less a b xs less = subst (λ (n : ℕ). sum (first_answers a xs) ≤ sum (first_answers n xs)) (let e : a + (b - a) ≡ b = omega arith in e) (more-first a (b - a) xs)

-- ticks that were counted are no more than the first answers to come
pub ticks-below : (tick rounds most buckets : ℕ) (answers to_come : List ℕ) → tick ≡ min (sum answers) (2 ^ 64 - 1) → rounds ≡ length answers → answers ≡ first_answers (length answers) to_come → rounds ≤ most → sum (first_answers most to_come) < buckets → tick < buckets
ticks-below tick rounds most buckets answers to_come ticked many are few low =
    let a = min-le_left (sum answers) (2 ^ 64 - 1) in
    let b = ap (λ (xs : List ℕ). sum xs) are in
    let c = first-less (length answers) most to_come (omega arith) in omega arith

-- ---- a count of what was handed out

-- one that does not stand at its end is the sum
sum-below : (answers : List ℕ) (before : ℕ) → fold handed_on before answers < 2 ^ 64 - 1 → fold handed_on before answers ≡ before + sum answers
sum-below [] before below = omega arith
sum-below (n ∷ ns) before below =
    let c = sum_by-cons (λ (m : ℕ). m) n ns in
    let rest = sum-below ns (handed_on before n) below in omega arith

module _ (answers : List ℕ) (before after : ℕ) (is : after ≡ fold handed_on before answers) where
  -- no more ticks were answered than were handed out between
  pub answered-most : (n : ℕ) → n ≤ sum answers → n ≤ last_tick → n ≤ ticks_between before after
  answered-most n most last = by (nat_le (2 ^ 64 - 1) after) refl
    where
      by : (b : Bool) → nat_le (2 ^ 64 - 1) after ≡ b → n ≤ cond b (2 ^ 64 - 1) (after - before)
      by true full = last
      by false open_still =
          let below : after < 2 ^ 64 - 1 = leb-false (2 ^ 64 - 1) after open_still in
          let all = sum-below answers before (subst (λ (k : ℕ). k < 2 ^ 64 - 1) is below) in omega arith

  -- and as many, where the count does not stand at its end
  pub answered-all : ticks_between before after < 2 ^ 64 - 1 → sum answers ≡ ticks_between before after
  answered-all = by (nat_le (2 ^ 64 - 1) after) refl
    where
      by : (b : Bool) → nat_le (2 ^ 64 - 1) after ≡ b → cond b (2 ^ 64 - 1) (after - before) < 2 ^ 64 - 1 → sum answers ≡ cond b (2 ^ 64 - 1) (after - before)
      by true full few = absurd (omega arith)
      by false open_still few =
          let below : after < 2 ^ 64 - 1 = leb-false (2 ^ 64 - 1) after open_still in
          let all = sum-below answers before (subst (λ (k : ℕ). k < 2 ^ 64 - 1) is below) in omega arith
