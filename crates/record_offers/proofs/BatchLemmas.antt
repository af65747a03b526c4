-- Batches of a spout without partitions.
use Rattle.std.proofs.Common.{◌≡◌, ℕ, ◌+◌, ◌-◌, ◌*◌, ◌<◌, ◌≤◌, ◌⊎◌, ◌↔◌, inl, inr, List, [], ◌∷◌, zero, suc, length, get_or, refl, sym, ap, ap₂, ◌∙◌, arith}
use Rattle.std.specs.Prelude.{min}
use Rattle.std.specs.List.{range_with_len}
use Rattle.std.proofs.Math.Nat.{lt_of_mul-lt-mul_right, mul-le-mul_right}
use Rattle.std.proofs.lemmas.Bool.{cases_lt}
use Rattle.std.proofs.lemmas.Grind.{div_ceil_times}
use Rattle.std.proofs.lemmas.List.{length-append}
use Rattle.std.proofs.lemmas.List.FromFn.{length-range_with_len}
use Rattle.record_spans.specs.declared.span.Span.{Span}
use Rattle.record_spans.specs.Spans.{AreApart, AreRunsOf, end_of, numbers_of, records_of}
use Rattle.record_spans.proofs.RunLemmas.{one_list_of_runs}
use Rattle.record_spans.proofs.SpanLemmas.{records_one}
use Rattle.record_offers.specs.Offers.{batch_count, batch_numbers, first_of, last_of}

pub enough : (n size : ℕ) → 0 < size → n ≤ batch_count n size * size
enough n size some = (div_ceil_times n size some).0

least_of : (n size many count : ℕ) → count * size < n + size → n ≤ many * size → count ≤ many
least_of n size many count below holds =
    let less : count * size < (many + 1) * size = omega arith in
    let more : count < many + 1 = lt_of_mul-lt-mul_right size less in
    omega arith

pub least : (n size many : ℕ) → 0 < size → n ≤ many * size → batch_count n size ≤ many
least n size many some holds = least_of n size many (batch_count n size) (div_ceil_times n size some).1 holds

-- there is a record left for each batch
pub some_left : (n size txid : ℕ) → 0 < size → 1 ≤ txid → txid ≤ batch_count n size → (txid - 1) * size < n
some_left n size txid some first there =
    elim (cases_lt ((txid - 1) * size) n) [
      | inl less ↦ less
      | inr past ↦ absurd (too_few (batch_count n size) first there (least n size (txid - 1) some past))
    ]
  where
    too_few : (count : ℕ) → 1 ≤ txid → txid ≤ count → count ≤ txid - 1 → ⊥
    too_few count first there few = omega arith

one_more_batch : (size txid : ℕ) → 1 ≤ txid → txid * size ≡ (txid - 1) * size + size
one_more_batch size txid first = ap (λ n. n * size) (before txid first) ∙ times_more (txid - 1) size
  where
    before : (n : ℕ) → 1 ≤ n → n ≡ n - 1 + 1
    before n there = omega arith

    times_more : (k m : ℕ) → (k + 1) * m ≡ k * m + m
    times_more k m = omega arith

-- ---- no batch

no_first : (n size : ℕ) → batch_numbers n size 0 ≡ []
no_first n size =
    let none : last_of n size 0 + 1 - first_of size 0 ≡ 0 = omega arith in
    ap (range_with_len (first_of size 0)) none

past_last : (n size txid count before : ℕ) → n ≤ before → min (txid * size) n + 1 - (before + 1) ≡ 0
past_last n size txid count before past = omega arith

pub no_batch : (n size txid : ℕ) → 0 < size → (txid ≡ 0) ⊎ (batch_count n size < txid) → batch_numbers n size txid ≡ []
no_batch n size txid some out =
    elim out [
      | inl none ↦ ap (batch_numbers n size) none ∙ no_first n size
      | inr past ↦
          let below : batch_count n size ≤ txid - 1 = omega (arith, past) in
          let far = mul-le-mul_right size below in
          let all = enough n size some in
          let reach : n ≤ (txid - 1) * size = omega (arith, far, all) in
          ap (range_with_len (first_of size txid)) (past_last n size txid (batch_count n size) ((txid - 1) * size) reach)
    ]

-- ---- a batch as a span

span_ends : (n size whole before : ℕ) → whole ≡ before + size → before < n → min whole n ≡ before + min size (n - before)
span_ends n size whole before is left = omega arith

pub a_batch : (n size txid : ℕ) (span : Span) → 0 < size → 1 ≤ txid → txid ≤ batch_count n size
    → span ≡ record { first = (txid - 1) * size + 1; last = (txid - 1) * size + min size (n - (txid - 1) * size) }
    → AreRunsOf (batch_numbers n size txid) (span ∷ []) × (end_of 0 (span ∷ []) ≤ n + 1) × (batch_numbers n size txid ≡ [] → ⊥)
a_batch n size txid span some first there is =
    let before = (txid - 1) * size in
    let left = some_left n size txid some first there in
    let last : last_of n size txid ≡ before + min size (n - before) = span_ends n size (txid * size) before (one_more_batch size txid first) left in
    rw is (
      record {
        apart = (omega arith, rising before left, tt);
        records = records_one (record { first = before + 1; last = before + min size (n - before) })
            ∙ ap (λ e. range_with_len (before + 1) (e + 1 - (before + 1))) (sym last);
      },
      ends before left,
      λ none. absurd (let empty = sym (length-range_with_len (before + 1) (last_of n size txid + 1 - (before + 1))) ∙ ap length none in many before (last_of n size txid) last left empty),
    )
  where
    rising : (before : ℕ) → before < n → before + 1 ≤ before + min size (n - before)
    rising before left = omega arith

    ends : (before : ℕ) → before < n → before + min size (n - before) + 1 ≤ n + 1
    ends before left = omega arith

    many : (before last : ℕ) → last ≡ before + min size (n - before) → before < n → last + 1 - (before + 1) ≡ 0 → ⊥
    many before last is left none = omega arith

-- ---- the first records as a span

one_item : (spans : List Span) (d : Span) → length spans ≡ 1 → spans ≡ get_or spans 0 d ∷ []
one_item [] d one = absurd (omega arith)
one_item (x ∷ []) d one = refl
one_item (x ∷ y ∷ spans) d one = absurd (omega arith)

first_span : (last : ℕ) → 0 < last → AreRunsOf (range_with_len 1 last) (record { first = 1; last = last } ∷ [])
first_span last some = record {
  apart = (omega arith, some, tt);
  records = records_one (record { first = 1; last = last }) ∙ ap (range_with_len 1) (omega arith);
}

pub are_first : (spans : List Span) (d : Span) (last : ℕ) → length spans ≡ 1 → (get_or spans 0 d).first ≡ 1 → (get_or spans 0 d).last ≡ last
    → records_of spans ≡ range_with_len 1 last
are_first spans d last one first is =
    let len : (get_or spans 0 d).last + 1 - (get_or spans 0 d).first ≡ last = omega arith in
    ap records_of (one_item spans d one) ∙ records_one (get_or spans 0 d) ∙ ap₂ range_with_len first len

-- spans of the first records are one, or none where there is no record
pub first_is : (spans : List Span) (last : ℕ) → AreApart 0 spans → records_of spans ≡ range_with_len 1 last
    → ((last ≡ 0) × (spans ≡ [])) ⊎ (spans ≡ record { first = 1; last = last } ∷ [])
first_is spans zero apart is = inl (refl, one_list_of_runs [] spans [] (record { apart = apart; records = is }) (record { apart = tt; records = refl }))
first_is spans (suc n) apart is = inr (one_list_of_runs (range_with_len 1 (suc n)) spans _ (record { apart = apart; records = is }) (first_span (suc n) (omega arith)))

pub one_first : (spans : List Span) (d : Span) (last : ℕ) → AreApart 0 spans → length spans ≡ 1 → records_of spans ≡ range_with_len 1 last
    → ((get_or spans 0 d).first ≡ 1) × ((get_or spans 0 d).last ≡ last)
one_first spans d last apart one is =
    elim (first_is spans last apart is) [
      | inl none ↦ absurd (let empty = ap length none.1 in omega (arith, empty, one))
      | inr same ↦ (ap (λ xs. (get_or xs 0 d).first) same, ap (λ xs. (get_or xs 0 d).last) same)
    ]

pub at_most_one : (spans : List Span) (last : ℕ) → AreApart 0 spans → records_of spans ≡ range_with_len 1 last → length spans ≤ 1
at_most_one spans last apart is =
    elim (first_is spans last apart is) [
      | inl none ↦ let empty = ap length none.1 in omega (arith, empty)
      | inr same ↦ let one = ap length same in omega (arith, one)
    ]

-- ---- spans of no record are none

pub some_runs : (numbers : List ℕ) (spans : List Span) → AreRunsOf numbers spans → 0 < length spans → numbers ≡ [] → ⊥
some_runs numbers [] runs some none = omega (arith, some)
some_runs numbers (span ∷ spans) runs some none =
    let fits = runs.apart.1 in
    let here = length-range_with_len span.first (span.last + 1 - span.first) in
    let both = length-append (numbers_of span) (records_of spans) in
    let empty = ap length (runs.records ∙ none) in
    omega (arith, fits, here, both, empty)

-- ---- which batches are there

pub there : (n size txid : ℕ) → 0 < size → (batch_numbers n size txid ≡ []) ↔ ((txid ≡ 0) ⊎ (batch_count n size < txid))
there n size txid some = (
  λ empty.
      elim (cases_lt (batch_count n size) txid) [
        | inl past ↦ inr past
        | inr up_to ↦
            elim (cases_lt 0 txid) [
              | inl first ↦ absurd ((a_batch n size txid _ some first up_to refl).2 empty)
              | inr none ↦ inl (omega (arith, none))
            ]
      ],
  no_batch n size txid some,
)
