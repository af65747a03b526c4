-- The runs of rising numbers.
use Rattle.std.proofs.Common.{◌≡◌, ℕ, zero, suc, ◌+◌, ◌-◌, ◌*◌, ◌<◌, ◌≤◌, ◌==◌, ◌||◌, inl, inr, Bool, true, false, cond, List, [], ◌∷◌, ◌++◌, length, take, refl, sym, ap, ◌∙◌, arith}
use Rattle.std.specs.Prelude.{min, nat_le}
use Rattle.std.specs.List.{filter, range_with_len}
use Rattle.std.proofs.lemmas.Bool.{cases_lt}
use Rattle.std.proofs.lemmas.Bool.Decides.{nat_tests}
use Rattle.std.proofs.lemmas.List.{length-take}
use Rattle.std.proofs.lemmas.List.FromFn.{length-range_with_len}
use Rattle.record_spans.specs.declared.span.Span.{Span}
use Rattle.record_spans.specs.Spans.{AreApart, AreRunsOf, end_of, is_within, records_of, stands_in}
use Rattle.record_spans.proofs.SpanLemmas.{numbers_single}
use Rattle.record_offers.proofs.BatchLemmas.{some_left}
use Rattle.record_offers.specs.Offers.{OfferState, batch_count, batch_numbers, first_free, first_of, free_records, is_free, last_of, offered}
use Rattle.taken_records.specs.Taken.{IsBatch, joined, runs_of}

-- ---- rising numbers

-- each number lies above the one before it, and the first above a number
abbrev pub Rises : ℕ → List ℕ → Type 0
Rises low [] = Unit {0}
Rises low (n ∷ numbers) = (low < n) × Rises n numbers

pub rises_lower : (low high : ℕ) (numbers : List ℕ) → low ≤ high → Rises high numbers → Rises low numbers
rises_lower low high [] less rises = tt
rises_lower low high (n ∷ numbers) less rises = let above = rises.0 in (omega (arith, less, above), rises.1)

pub range_rises : (low first count : ℕ) → low < first → Rises low (range_with_len first count)
range_rises low first zero less = tt
range_rises low first (suc count) less = (less, range_rises first (first + 1) count (omega arith))

pub filter_rises : (p : ℕ → Bool) (low : ℕ) (numbers : List ℕ) → Rises low numbers → Rises low (filter p numbers)
filter_rises p low [] rises = tt
filter_rises p low (n ∷ numbers) rises = by (p n) (filter_rises p n numbers rises.1)
  where
    by : (b : Bool) → Rises n (filter p numbers) → Rises low (cond b (n ∷ filter p numbers) (filter p numbers))
    by true rest = (rises.0, rest)
    by false rest = let above = rises.0 in rises_lower low n (filter p numbers) (omega (arith, above)) rest

pub take_rises : (count low : ℕ) (numbers : List ℕ) → Rises low numbers → Rises low (take count numbers)
take_rises zero low numbers rises = tt
take_rises (suc count) low [] rises = tt
take_rises (suc count) low (n ∷ numbers) rises = (rises.0, take_rises count n numbers rises.1)

-- ---- runs

abbrev pub single : ℕ → Span
single n = record { first = n; last = n }

joined_apart : (low n : ℕ) (spans : List Span) → low < n → AreApart n spans → AreApart low (joined n spans)
joined_apart low n [] less apart = (less, omega arith, tt)
joined_apart low n (span ∷ spans) less apart = by (span.first == n + 1) refl
  where
    by : (b : Bool) → (span.first == n + 1) ≡ b → AreApart low (cond b (record { first = n; last = span.last } ∷ spans) (single n ∷ span ∷ spans))
    by true is =
        let same : span.first ≡ n + 1 = grind (arith, nat_tests, is) in
        let fits = apart.1 in
        (less, omega (arith, same, fits), apart.2)
    by false is =
        let other : (span.first ≡ n + 1 → ⊥) = λ e. grind (arith, nat_tests, is, e) in
        let above = apart.0 in
        (less, omega arith, (omega (arith, above, other), apart.1, apart.2))

pub runs_apart : (low : ℕ) (numbers : List ℕ) → Rises low numbers → AreApart low (runs_of numbers)
runs_apart low [] rises = tt
runs_apart low (n ∷ numbers) rises = joined_apart low n (runs_of numbers) rises.0 (runs_apart n numbers rises.1)

joined_records : (n : ℕ) (spans : List Span) → AreApart n spans → records_of (joined n spans) ≡ n ∷ records_of spans
joined_records n [] apart = ap (λ ns. ns ++ []) (numbers_single n)
joined_records n (span ∷ spans) apart = by (span.first == n + 1) refl
  where
    by : (b : Bool) → (span.first == n + 1) ≡ b
        → records_of (cond b (record { first = n; last = span.last } ∷ spans) (single n ∷ span ∷ spans)) ≡ n ∷ records_of (span ∷ spans)
    by true is =
        let same : span.first ≡ n + 1 = grind (arith, nat_tests, is) in
        let fits = apart.1 in
        let len : span.last + 1 - n ≡ suc (span.last + 1 - (n + 1)) = omega (arith, same, fits) in
        ap (λ k. range_with_len n k ++ records_of spans) len
        ∙ ap (λ k. n ∷ (range_with_len k (span.last + 1 - k) ++ records_of spans)) (sym same)
    by false is = ap (λ ns. ns ++ records_of (span ∷ spans)) (numbers_single n)

pub runs_records : (low : ℕ) (numbers : List ℕ) → Rises low numbers → records_of (runs_of numbers) ≡ numbers
runs_records low [] rises = refl
runs_records low (n ∷ numbers) rises =
    joined_records n (runs_of numbers) (runs_apart n numbers rises.1) ∙ ap (λ ns. n ∷ ns) (runs_records n numbers rises.1)

pub runs_are : (numbers : List ℕ) → Rises 0 numbers → AreRunsOf numbers (runs_of numbers)
runs_are numbers rises = record { apart = runs_apart 0 numbers rises; records = runs_records 0 numbers rises }

-- ---- what is offered rises

pub batch_rises : (records size txid : ℕ) → Rises 0 (batch_numbers records size txid)
batch_rises records size txid = range_rises 0 (first_of size txid) (last_of records size txid + 1 - first_of size txid) (omega arith)

pub free_rises : (size partitions shut : ℕ) (gone : List Bool) → Rises 0 (first_free size partitions shut gone)
unfolding free_records
free_rises size partitions shut gone =
    take_rises size 0 (filter (is_free partitions shut gone) (range_with_len 1 (length gone)))
    (filter_rises (is_free partitions shut gone) 0 (range_with_len 1 (length gone)) (range_rises 0 1 (length gone) (omega arith)))

pub offered_rises : (state : OfferState) (txid shut : ℕ) → Rises 0 (offered state txid shut)
offered_rises state txid shut = by (state.partitions == 0)
  where
    by : (b : Bool) → Rises 0 (cond b (batch_numbers (length state.records) state.size txid) (first_free state.size state.partitions shut state.gone))
    by true = batch_rises (length state.records) state.size txid
    by false = free_rises state.size state.partitions shut state.gone

-- ---- batches

-- the last number of runs is that of the numbers
abbrev pub Below : ℕ → List ℕ → Type 0
Below most [] = Unit {0}
Below most (n ∷ numbers) = (n ≤ most) × Below most numbers

joined_end : (most n low : ℕ) (spans : List Span) → n ≤ most → end_of 0 spans ≤ most + 1 → end_of low (joined n spans) ≤ most + 1
joined_end most n low [] less end = omega arith
joined_end most n low (span ∷ spans) less end = by (span.first == n + 1)
  where
    by : (b : Bool) → end_of low (cond b (record { first = n; last = span.last } ∷ spans) (single n ∷ span ∷ spans)) ≤ most + 1
    by true = end
    by false = end

pub runs_end : (most : ℕ) (numbers : List ℕ) → Below most numbers → end_of 0 (runs_of numbers) ≤ most + 1
runs_end most [] below = omega arith
runs_end most (n ∷ numbers) below = joined_end most n 0 (runs_of numbers) below.0 (runs_end most numbers below.1)

range_below : (most first count : ℕ) → first + count ≤ most + 1 → Below most (range_with_len first count)
range_below most first zero less = tt
range_below most first (suc count) less = (omega (arith, less), range_below most (first + 1) count (omega (arith, less)))

filter_below : (p : ℕ → Bool) (most : ℕ) (numbers : List ℕ) → Below most numbers → Below most (filter p numbers)
filter_below p most [] below = tt
filter_below p most (n ∷ numbers) below = by (p n) (filter_below p most numbers below.1)
  where
    by : (b : Bool) → Below most (filter p numbers) → Below most (cond b (n ∷ filter p numbers) (filter p numbers))
    by true rest = (below.0, rest)
    by false rest = rest

take_below : (count most : ℕ) (numbers : List ℕ) → Below most numbers → Below most (take count numbers)
take_below zero most numbers below = tt
take_below (suc count) most [] below = tt
take_below (suc count) most (n ∷ numbers) below = (below.0, take_below count most numbers below.1)

pub is_batch : (records size : ℕ) (numbers : List ℕ) → Rises 0 numbers → Below records numbers → 1 ≤ length numbers → length numbers ≤ size
    → IsBatch records size (runs_of numbers)
is_batch records size numbers rises below some few =
    let same = runs_records 0 numbers rises in
    record {
      apart = runs_apart 0 numbers rises;
      within = runs_end records numbers below;
      some = rw same some;
      few = rw same few;
    }

pub free_is_batch : (size partitions shut : ℕ) (gone : List Bool) → 1 ≤ length (first_free size partitions shut gone)
    → IsBatch (length gone) size (runs_of (first_free size partitions shut gone))
unfolding free_records
free_is_batch size partitions shut gone some =
    let numbers = range_with_len 1 (length gone) in
    let p = is_free partitions shut gone in
    let len = length-take size (filter p numbers) in
    is_batch (length gone) size (first_free size partitions shut gone) (free_rises size partitions shut gone)
    (take_below size (length gone) (filter p numbers) (filter_below p (length gone) numbers (range_below (length gone) 1 (length gone) (omega arith))))
    some (omega (arith, len))

pub next_end : (size txid : ℕ) → 1 ≤ txid → txid * size ≡ (txid - 1) * size + size
next_end size txid first = ap (λ n. n * size) (before txid first) ∙ more (txid - 1) size
  where
    before : (n : ℕ) → 1 ≤ n → n ≡ n - 1 + 1
    before n there = omega arith

    more : (k m : ℕ) → (k + 1) * m ≡ k * m + m
    more k m = omega arith

pub one_batch : (records size txid : ℕ) → 0 < size → 1 ≤ txid → txid ≤ batch_count records size
    → IsBatch records size (runs_of (batch_numbers records size txid))
one_batch records size txid some first there =
    let left = some_left records size txid some first there in
    let next = next_end size txid first in
    let len = length-range_with_len (first_of size txid) (last_of records size txid + 1 - first_of size txid) in
    by (txid * size) ((txid - 1) * size) next left (batch_rises records size txid) len
  where
    by : (end before : ℕ) → end ≡ before + size → before < records → Rises 0 (range_with_len (before + 1) (min end records + 1 - (before + 1)))
        → length (range_with_len (before + 1) (min end records + 1 - (before + 1))) ≡ min end records + 1 - (before + 1)
        → IsBatch records size (runs_of (range_with_len (before + 1) (min end records + 1 - (before + 1))))
    by end before next left rises len =
        is_batch records size (range_with_len (before + 1) (min end records + 1 - (before + 1))) rises
        (range_below records (before + 1) (min end records + 1 - (before + 1)) (omega (arith, left, next)))
        (omega (arith, len, left, next, some)) (omega (arith, len, next))

-- ---- records of a batch are records of the input

ends_of : (span : Span) (n : ℕ) → is_within span n ≡ true → (span.first ≤ n) × (n ≤ span.last)
ends_of span n is =
    elim (cases_lt n span.first) [
      | inl low ↦ let a : nat_le span.first n ≡ false = grind (arith, nat_tests, low) in absurd (never (sym is ∙ rw a refl))
      | inr first ↦
          elim (cases_lt span.last n) [
            | inl high ↦
                let a : nat_le span.first n ≡ true = grind (arith, nat_tests, first) in
                let b : nat_le n span.last ≡ false = grind (arith, nat_tests, high) in
                absurd (never (sym is ∙ rw (a, b) refl))
            | inr last ↦ (first, last)
          ]
    ]
  where
    never : true ≡ false → ⊥
    never e = cc

stands_from : (low : ℕ) (spans : List Span) (n : ℕ) → AreApart low spans → stands_in spans n ≡ true → (low < n) × (n + 1 ≤ end_of low spans)
stands_from low [] n apart is = absurd (never is)
  where
    never : false ≡ true → ⊥
    never e = cc
stands_from low (span ∷ spans) n apart is = by (is_within span n) refl is (stands_from (span.last + 1) spans n apart.2)
  where
    far : (low : ℕ) (spans : List Span) → AreApart low spans → low ≤ end_of low spans
    far low [] apart = omega arith
    far low (span ∷ spans) apart = let a = apart.0 in let b = apart.1 in let c = far (span.last + 1) spans apart.2 in omega (arith, a, b, c)

    by : (b : Bool) → is_within span n ≡ b → (b || stands_in spans n) ≡ true → (stands_in spans n ≡ true → (span.last + 1 < n) × (n + 1 ≤ end_of (span.last + 1) spans))
        → (low < n) × (n + 1 ≤ end_of (span.last + 1) spans)
    by true here e later =
        let ends = ends_of span n here in
        let first = ends.0 in
        let last = ends.1 in
        let above = apart.0 in
        let more = far (span.last + 1) spans apart.2 in
        (omega (arith, first, above), omega (arith, last, more))
    by false off e later = let r = later e in let low_n = r.0 in let a = apart.0 in let b = apart.1 in (omega (arith, low_n, a, b), r.1)

pub stands_within : (records size : ℕ) (spans : List Span) (n : ℕ) → IsBatch records size spans → stands_in spans n ≡ true → (1 ≤ n) × (n ≤ records)
stands_within records size spans n batch is =
    let r = stands_from 0 spans n batch.apart is in
    let low = r.0 in
    let high = r.1 in
    let end = batch.within in
    (omega (arith, low), omega (arith, high, end))
