-- Spans of record numbers, which are counted from 1. This project's own.
use Rattle.std.specs.Prelude.{◌≡◌, ℕ, ◌+◌, ◌-◌, ◌<◌, ◌≤◌, ◌&&◌, List, [], ◌∷◌, Bool, nat_le}
use Rattle.std.specs.List.{flat_map, list_any, range_with_len}
use Rattle.record_spans.specs.declared.span.Span.{Span}

-- the numbers of a span, from its first to its last
abbrev pub numbers_of : Span → List ℕ
numbers_of span = range_with_len span.first (span.last + 1 - span.first)

-- the numbers of some spans, one span after another
abbrev pub records_of : List Span → List ℕ
records_of spans = flat_map numbers_of spans

-- No span is empty, they rise and none touches another, and the first lies above a number.
abbrev pub AreApart : ℕ → List Span → Type 0
AreApart low [] = Unit {0}
AreApart low (span ∷ spans) =
    (low < span.first) × (span.first ≤ span.last) × AreApart (span.last + 1) spans

-- one more than the last number of some spans, or the number given where there are none
abbrev pub end_of : ℕ → List Span → ℕ
end_of low [] = low
end_of low (span ∷ spans) = end_of (span.last + 1) spans

-- the spans are the maximal runs of rising numbers
pub record AreRunsOf (numbers : List ℕ) (spans : List Span) : Type 0 where
  pub apart : AreApart 0 spans
  pub records : records_of spans ≡ numbers

-- whether a record stands in a span
abbrev pub is_within : Span → ℕ → Bool
is_within span n = nat_le span.first n && nat_le n span.last

-- whether a record stands in one of some spans
abbrev pub stands_in : List Span → ℕ → Bool
stands_in spans n = list_any (λ span. is_within span n) spans
