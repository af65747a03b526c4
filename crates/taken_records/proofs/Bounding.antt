-- No more batches are taken than there are records.
use Rattle.std.proofs.Common.{◌≡◌, inl, inr, ℕ, zero, suc, ◌+◌, ◌-◌, ◌<◌, ◌≤◌, Bool, true, false, not, cond, List, [], ◌∷◌, length, slice_index_or, Contains, refl, ap, arith}
use Rattle.std.specs.List.{AllByRecursion}
use Rattle.std.proofs.lemmas.Bool.{cases_eq}
use Rattle.std.proofs.lemmas.List.Sums.{sum_by-cons}
use Rattle.record_spans.specs.declared.span.Span.{Span}
use Rattle.record_spans.specs.Spans.{records_of, stands_in}
use Rattle.record_spans.proofs.RunLemmas.{then_stands}
use Rattle.record_offers.specs.Offers.{left_in}
use Rattle.taken_records.specs.Taken.{AreTaken, IsBatch, one_if, times_in}
use Rattle.taken_records.proofs.Running.{stands_within}

-- the sum of a function over so many numbers from one on
abbrev total : (ℕ → ℕ) → ℕ → ℕ → ℕ
total f from zero = 0
total f from (suc count) = f from + total f (from + 1) count

total_le : (f g : ℕ → ℕ) (from count : ℕ) → ((n : ℕ) → from ≤ n → n < from + count → f n ≤ g n) → total f from count ≤ total g from count
total_le f g from zero each = omega arith
total_le f g from (suc count) each =
    let here = each from (omega arith) (omega arith) in
    let rest = total_le f g (from + 1) count (λ n low high. each n (omega (arith, low)) (omega (arith, high))) in
    omega (arith, here, rest)

total_plus : (f g : ℕ → ℕ) (from count : ℕ) → total (λ n. f n + g n) from count ≡ total f from count + total g from count
total_plus f g from zero = refl
total_plus f g from (suc count) = let rest = total_plus f g (from + 1) count in omega (arith, rest)

total_has : (f : ℕ → ℕ) (from count n : ℕ) → from ≤ n → n < from + count → 1 ≤ f n → 1 ≤ total f from count
total_has f from zero n low high some = absurd (omega (arith, low, high))
total_has f from (suc count) n low high some =
    elim (cases_eq from n) [
      | inl same ↦ (let here : f from ≡ f n = ap f same in omega (arith, some, here))
      | inr other ↦ (let rest = total_has f (from + 1) count n (omega (arith, low, other)) (omega (arith, high)) some in omega (arith, rest))
    ]

-- ---- of some batches each has a record

some_number : (numbers : List ℕ) → 1 ≤ length numbers → (n : ℕ) × Contains numbers n
some_number [] some = absurd (omega (arith, some))
some_number (n ∷ numbers) some = (n, (0, omega arith, refl))

has_one : (records size : ℕ) (spans : List Span) → IsBatch records size spans → 1 ≤ total (λ n. one_if (stands_in spans n)) 1 records
has_one records size spans batch =
    let one = some_number (records_of spans) batch.some in
    let stands = then_stands spans one.0 one.1 in
    let within = stands_within records size spans one.0 batch stands in
    let low = within.0 in
    let high = within.1 in
    let here : 1 ≤ one_if (stands_in spans one.0) = (let e = ap one_if stands in omega (arith, e)) in
    total_has (λ n. one_if (stands_in spans n)) 1 records one.0 low (omega (arith, high)) here

have_one : (records size : ℕ) (taken : List (List Span)) → AllByRecursion (IsBatch records size) taken → length taken ≤ total (times_in taken) 1 records
have_one records size [] batches = omega arith
have_one records size (spans ∷ taken) batches =
    let one = has_one records size spans batches.0 in
    let rest = have_one records size taken batches.1 in
    let sum = total_plus (λ n. one_if (stands_in spans n)) (times_in taken) 1 records in
    omega (arith, one, rest, sum)

-- ---- each record is gone or left

total_same : (f g : ℕ → ℕ) (from count : ℕ) → ((n : ℕ) → from ≤ n → f n ≡ g n) → total f from count ≡ total g from count
total_same f g from zero each = refl
total_same f g from (suc count) each =
    let here = each from (omega arith) in
    let rest = total_same f g (from + 1) count (λ n low. each n (omega (arith, low))) in
    omega (arith, here, rest)

gone_or_left : (from : ℕ) (gone : List Bool) → total (λ n. one_if (slice_index_or gone (n - from) true)) from (length gone) + left_in gone ≡ length gone
gone_or_left from [] = refl
gone_or_left from (mark ∷ gone) =
    let first : one_if (slice_index_or (mark ∷ gone) (from - from) true) ≡ one_if mark =
    (let at : from - from ≡ 0 = omega arith in ap (λ (i : ℕ). one_if (slice_index_or (mark ∷ gone) i true)) at) in
    let later = total_same (λ n. one_if (slice_index_or (mark ∷ gone) (n - from) true)) (λ n. one_if (slice_index_or gone (n - (from + 1)) true)) (from + 1) (length gone)
    (λ n low. let at : n - from ≡ suc (n - (from + 1)) = omega (arith, low) in ap (λ (i : ℕ). one_if (slice_index_or (mark ∷ gone) i true)) at) in
    let rest = gone_or_left (from + 1) gone in
    let marks = sum_by-cons (λ b. cond (not b) 1 0) mark gone in
    let either = one mark in
    omega (arith, first, later, rest, marks, either)
  where
    one : (b : Bool) → one_if b + cond {A = ℕ} (not b) 1 0 ≡ 1
    one true = refl
    one false = refl

pub taken_few : (began gone : List Bool) (size : ℕ) (taken : List (List Span)) → AreTaken began gone size taken → length taken + left_in gone ≤ length began
taken_few began gone size taken are =
    let some = have_one (length began) size taken are.batches in
    let few = total_le (times_in taken) (λ n. one_if (slice_index_or gone (n - 1) true)) 1 (length began)
    (λ n low high. let o = are.once n low (omega (arith, high)) in omega (arith, o)) in
    let all = gone_or_left 1 gone in
    let same = ap (total (λ n. one_if (slice_index_or gone (n - 1) true)) 1) are.marks in
    let marks = are.marks in
    omega (arith, some, few, all, same, marks)
