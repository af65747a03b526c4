-- The batches of a spout without partitions hold all records.
use Rattle.std.proofs.Common.{◌≡◌, ◌≤◌, ◌<◌, ◌⊎◌, inl, inr, ◌+◌, ◌-◌, ◌*◌, ℕ, zero, suc, List, drop, length, map, take, ap, subst, ◌∙◌, arith}
use Rattle.std.proofs.lemmas.Bool.{cases_lt}
use Rattle.std.proofs.lemmas.List.{take_all}
use Rattle.std.specs.List.{flat_map, range_with_len}
use Rattle.attempt_fates.proofs.RecordLemmas.{batches_in as records_of_batches}
use Rattle.batch_commits.specs.Standing.{HoldAll, batches_in, first_batches}
use Rattle.commit_turns.specs.Account.{rows_at}
use Rattle.record_offers.proofs.BatchLemmas.{enough}
use Rattle.record_spans.specs.declared.span.Span.{Span}
use Rattle.taken_records.proofs.Batching.{has_batch}
use Rattle.taken_records.specs.Cuts.{Cut}
use Rattle.taken_records.specs.Taken.{batch_spans, one_if, times_in}

-- a record stands in the batch that has its place
held_from : (records size start count n : ℕ) → start * size < n → n ≤ (start + count) * size → n ≤ records
    → 1 ≤ times_in (map (batch_spans records size) (range_with_len (start + 1) count)) n
held_from records size start zero n low high within =
    let none : (start + zero) * size ≡ start * size = ap (λ k. k * size) (let e : start + zero ≡ start = omega arith in e) in
    absurd (omega (arith, low, high, none))
held_from records size start (suc count) n low high within =
    elim (cases_lt ((start + 1) * size) n) [
      | inl behind ↦
          let next : (start + suc count) * size ≡ (start + 1 + count) * size =
          ap (λ k. k * size) (let e : start + suc count ≡ start + 1 + count = omega arith in e) in
          let rest = held_from records size (start + 1) count n behind (omega (arith, high, next)) within in
          omega (arith, rest)
      | inr here ↦
          let at : (start + 1 - 1) * size ≡ start * size = ap (λ k. k * size) (let e : start + 1 - 1 ≡ start = omega arith in e) in
          let one = ap one_if (has_batch records size (start + 1) n (omega arith) (omega (arith, low, at)) here within) in
          omega (arith, one)
    ]

pub first_hold : (cut : Cut) → 0 < cut.size → HoldAll cut (first_batches cut (batches_in cut))
first_hold cut some n first last =
    let all = enough (length cut.gone) cut.size some in
    held_from (length cut.gone) cut.size 0 (batches_in cut) n (omega (arith, first)) (omega (arith, last, all)) last

-- their records are those of the input
pub first_records : (cut : Cut) → 0 < cut.size → length cut.gone ≡ length cut.records
    → flat_map (rows_at cut) (first_batches cut (batches_in cut)) ≡ cut.records
first_records cut some marks =
    let all = enough (length cut.gone) cut.size some in
    ap (λ n. flat_map (rows_at cut) (map (batch_spans n cut.size) (range_with_len 1 (batches_in cut)))) marks
    ∙ records_of_batches cut.records cut.size 0 (batches_in cut)
    ∙ ap (λ k. take (batches_in cut * cut.size) (drop k cut.records)) (let none : 0 * cut.size ≡ 0 = omega arith in none)
    ∙ take_all (batches_in cut * cut.size) cut.records (omega (arith, all, marks))

-- each record up to a number stands in one of some batches
abbrev HoldTo : List (List Span) → ℕ → Type 0
HoldTo batches most = (n : ℕ) → 1 ≤ n → n ≤ most → 1 ≤ times_in batches n

hold_to : (batches : List (List Span)) (most : ℕ) → HoldTo batches most ⊎ (HoldTo batches most → ⊥)
hold_to batches zero = inl (λ n first last. absurd (omega (arith, first, last)))
hold_to batches (suc most) = by (cases_lt 0 (times_in batches (suc most))) (hold_to batches most)
  where
    by : (0 < times_in batches (suc most)) ⊎ (times_in batches (suc most) ≤ 0)
        → HoldTo batches most ⊎ (HoldTo batches most → ⊥) → HoldTo batches (suc most) ⊎ (HoldTo batches (suc most) → ⊥)
    by (inr none) rest = inr (λ all. let one = all (suc most) (omega arith) (omega arith) in omega (arith, one, none))
    by (inl one) (inr lack) = inr (λ all. lack (λ n first last. all n first (omega (arith, last))))
    by (inl one) (inl all) = inl (λ n first last. at n first last (cases_lt n (suc most)))
      where
        at : (n : ℕ) → 1 ≤ n → n ≤ suc most → (n < suc most) ⊎ (suc most ≤ n) → 1 ≤ times_in batches n
        at n first last (inl below) = all n first (omega (arith, below))
        at n first last (inr top) =
            let same : suc most ≡ n = omega (arith, last, top) in
            subst (λ k. 1 ≤ times_in batches k) same (omega (arith, one))

pub holds_known : (cut : Cut) (batches : List (List Span)) → HoldAll cut batches ⊎ (HoldAll cut batches → ⊥)
holds_known cut batches = hold_to batches (length cut.gone)
