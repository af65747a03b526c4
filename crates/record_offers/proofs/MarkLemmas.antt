-- Marks, and the bounds below which all records of a partition are gone.
use Rattle.std.proofs.Common.{◌≡◌, ℕ, zero, suc, ◌+◌, ◌%◌, ◌<◌, ◌≤◌, inl, inr, Bool, true, false, not, cond, List, length, replicate, slice_index, slice_index_or, slice_set, refl, sym, ap, ap₂, subst, ◌∙◌, arith}
use Rattle.std.specs.List.{count_by, range_with_len}
use Rattle.std.proofs.lemmas.Bool.{cases_eq, cases_lt}
use Rattle.std.proofs.lemmas.List.{get_or-set_other, length-set}
use Rattle.std.proofs.lemmas.List.FromFn.{get_or-range_with_len, length-range_with_len}
use Rattle.std.proofs.lemmas.List.Filters.{length-filter_both}
use Rattle.std.proofs.lemmas.List.Folds.{sum_by-replicate}
use Rattle.std.proofs.lemmas.List.Sums.{length-filter}
use Rattle.std.proofs.Math.Nat.{mod-eq_of_lt, mod-le}
use Rattle.std.proofs.lemmas.Nat.{mod_below}
use Rattle.std.proofs.lemmas.Grind.{get_or-set_at}
use Rattle.record_spans.proofs.FrontLemmas.{mod_apart}
use Rattle.record_offers.specs.Marks.{AreBounds, is_mark}

-- ---- bounds

module _ (low : List ℕ) (gone : List Bool) (q bound : ℕ) where
  raised_own : ((k : ℕ) → k < length low → slice_index low k % length low ≡ k) → q < length low → bound % length low ≡ slice_index low q % length low
      → (k : ℕ) → k < length low → slice_index (slice_set low q bound) k % length low ≡ k
  raised_own own within same k below =
      elim (cases_eq k q) [
        | inl e ↦ ap (λ b. b % length low) (get_or-set_at low q k bound 0 e within) ∙ same ∙ own q within ∙ sym e
        | inr other ↦ ap (λ b. b % length low) (get_or-set_other low q k bound 0 other) ∙ own k below
      ]

  raised_reached : AreBounds low gone → q < length low
      → ((i : ℕ) → i < length gone → slice_index low q ≤ i → i < bound → i % length low ≡ slice_index low q % length low → slice_index_or gone i true ≡ true)
      → (i : ℕ) → i < length gone → i < slice_index (slice_set low q bound) (i % length low) → slice_index_or gone i true ≡ true
  raised_reached bounds within more i inside below =
      elim (cases_eq (i % length low) q) [
        | inl e ↦
            let here : i < bound = subst (λ b. i < b) (get_or-set_at low q (i % length low) bound 0 e within) below in
            elim (cases_lt i (slice_index low q)) [
              | inl before ↦ bounds.reached i inside (subst (λ k. i < slice_index low k) (sym e) before)
              | inr after ↦ more i inside after here (e ∙ sym (bounds.own q within))
            ]
        | inr other ↦ bounds.reached i inside (subst (λ b. i < b) (get_or-set_other low q (i % length low) bound 0 other) below)
      ]

pub raised : (low : List ℕ) (gone : List Bool) (q bound : ℕ) → AreBounds low gone → q < length low → bound % length low ≡ slice_index low q % length low
    → ((i : ℕ) → i < length gone → slice_index low q ≤ i → i < bound → i % length low ≡ slice_index low q % length low → slice_index_or gone i true ≡ true)
    → AreBounds (slice_set low q bound) gone
raised low gone q bound bounds within same more =
    let len = length-set low q bound in
    record {
      reached = rw len (raised_reached low gone q bound bounds within more);
      own = rw len (raised_own low gone q bound bounds.own within same);
    }

-- one step further
pub left_more : (gone : List Bool) (from at step : ℕ) → 0 < step → at % step ≡ from % step → slice_index_or gone at true ≡ true
    → ((i : ℕ) → i < length gone → from ≤ i → i < at → i % step ≡ from % step → slice_index_or gone i true ≡ true)
    → (i : ℕ) → i < length gone → from ≤ i → i < at + step → i % step ≡ from % step → slice_index_or gone i true ≡ true
left_more gone from at step some own here before i inside after below same =
    elim (cases_lt i at) [
      | inl earlier ↦ before i inside after earlier same
      | inr later ↦
          let e = mod_apart step at i later below (same ∙ sym own) in
          rw e here
    ]

-- ---- a bound that is lowered

module _ (low : List ℕ) (q at : ℕ) (within : q < length low) where
  pub lowered_no_higher : (old : List ℕ) → at < slice_index low q → ((k : ℕ) → slice_index low k ≤ slice_index old k)
      → (k : ℕ) → slice_index (slice_set low q at) k ≤ slice_index old k
  lowered_no_higher old below no_higher k =
      elim (cases_eq k q) [
        | inl e ↦
            let now = get_or-set_at low q k at 0 e within in
            let was = no_higher q in
            let is : slice_index old k ≡ slice_index old q = ap (slice_index old) e in
            omega (arith, now, was, below, is)
        | inr other ↦
            let now = get_or-set_other low q k at 0 other in
            let was = no_higher k in
            omega (arith, now, was)
      ]

  pub lowered_reached : (n first : ℕ) → at % n ≡ q → at < slice_index low q → ((i : ℕ) → first ≤ i + 1 → i < at → slice_index low (i % n) ≤ i)
      → (i : ℕ) → first ≤ i + 1 → i < at + 1 → slice_index (slice_set low q at) (i % n) ≤ i
  lowered_reached n first own below reached i after before =
      elim (cases_eq i at) [
        | inl e ↦
            let place : i % n ≡ q = ap (λ k. k % n) e ∙ own in
            let now = get_or-set_at low q (i % n) at 0 place within in
            omega (arith, now, e)
        | inr other ↦
            let was = reached i after (omega (arith, other, before)) in
            elim (cases_eq (i % n) q) [
              | inl place ↦
                  let is : slice_index low (i % n) ≡ slice_index low q = ap (slice_index low) place in
                  absurd (omega (arith, was, is, below, before))
              | inr elsewhere ↦
                  let now = get_or-set_other low q (i % n) at 0 elsewhere in
                  omega (arith, now, was)
            ]
      ]

  pub lowered_own : (n : ℕ) → at % n ≡ q → ((k : ℕ) → k < n → slice_index low k % n ≡ k) → (k : ℕ) → k < n → slice_index (slice_set low q at) k % n ≡ k
  lowered_own n own owns k below =
      elim (cases_eq k q) [
        | inl e ↦ ap (λ b. b % n) (get_or-set_at low q k at 0 e within) ∙ own ∙ sym e
        | inr other ↦ ap (λ b. b % n) (get_or-set_other low q k at 0 other) ∙ owns k below
      ]

pub kept_reached : (low : List ℕ) (n at first : ℕ) → slice_index low (at % n) ≤ at → ((i : ℕ) → first ≤ i + 1 → i < at → slice_index low (i % n) ≤ i)
    → (i : ℕ) → first ≤ i + 1 → i < at + 1 → slice_index low (i % n) ≤ i
kept_reached low n at first here reached i after before =
    elim (cases_eq i at) [
      | inl e ↦ subst (λ k. slice_index low (k % n) ≤ k) (sym e) here
      | inr other ↦ reached i after (omega (arith, other, before))
    ]

-- ---- how many marks are so

pub both_marks : (gone : List Bool) → count_by (is_mark true) gone + count_by not gone ≡ length gone
both_marks gone = ap₂ (λ a b. a + b) (sym (length-filter (is_mark true) gone)) (sym (length-filter not gone)) ∙ length-filter_both (is_mark true) not (λ b. refl) gone

pub taken_less : (old new : List Bool) (more : ℕ) → length new ≡ length old → count_by (is_mark true) new ≡ count_by (is_mark true) old + more → count_by not new + more ≡ count_by not old
taken_less old new more len is =
    let a = both_marks old in
    let b = both_marks new in
    omega (arith, a, b, len, is)

-- ---- at first

pub none_gone : (n : ℕ) → count_by not (replicate n false) ≡ n
none_gone n = sum_by-replicate (λ b. cond (not b) 1 0) n false ∙ omega arith

pub first_bounds : (n : ℕ) (gone : List Bool) → AreBounds (range_with_len 0 n) gone
first_bounds zero gone = record {
  reached = λ i inside below. absurd (omega (arith, below));
  own = λ q inside. absurd (omega (arith, inside));
}
first_bounds (suc m) gone =
    let n = suc m in
    let len = length-range_with_len 0 n in
    record {
      reached = λ i inside below. absurd (not_below i (mod_below i n (omega arith)) (subst (λ k. i < slice_index (range_with_len 0 n) (i % k)) len below));
      own = λ q inside. own q (subst (λ k. q < k) len inside);
    }
  where
    not_below : (i : ℕ) → i % suc m < suc m → i < slice_index (range_with_len 0 (suc m)) (i % suc m) → ⊥
    not_below i within below =
        let place = get_or-range_with_len 0 (suc m) (i % suc m) 0 within in
        let most = mod-le i (suc m) in
        omega (arith, place, most, below)

    own : (q : ℕ) → q < suc m → slice_index (range_with_len 0 (suc m)) q % length (range_with_len 0 (suc m)) ≡ q
    own q inside = rw (length-range_with_len 0 (suc m), get_or-range_with_len 0 (suc m) q 0 inside) (subst (λ k. k % suc m ≡ q) (omega arith) (mod-eq_of_lt inside))
