-- Fronts of partitions. Record n is of partition (n - 1) % partitions. This project's own.
use Rattle.std.specs.Prelude.{◌≡◌, ℕ, ◌+◌, ◌%◌, ◌<◌, ◌≤◌, List, Bool, true, false, length, slice_index}
use Rattle.record_spans.specs.declared.span.Span.{Span}
use Rattle.record_spans.specs.Spans.{stands_in}

-- The records of some spans are a front of each partition: with a record stands each earlier one
-- of its partition. Here i and j are places, counted from 0.
abbrev pub AreFronts : ℕ → List Span → Type 0
AreFronts partitions spans =
    (i j : ℕ) → i < j → i % partitions ≡ j % partitions → stands_in spans (j + 1) ≡ true
    → stands_in spans (i + 1) ≡ true

-- Of each partition those records have passed whose places lie below its next one.
pub record Reaches (passed : ℕ → Bool) (next : List ℕ) : Type 0 where
  pub own : (q : ℕ) → q < length next → slice_index next q % length next ≡ q
  pub below : (i : ℕ) → i < slice_index next (i % length next) → passed (i + 1) ≡ true
  pub from : (i : ℕ) → slice_index next (i % length next) ≤ i → passed (i + 1) ≡ false

-- no record of a span has passed
abbrev pub IsNew : (ℕ → Bool) → Span → Type 0
IsNew passed span = (n : ℕ) → span.first ≤ n → n ≤ span.last → passed n ≡ false

-- a record of a span, and an earlier one of its partition, before the span, that has not passed
pub record Misses (partitions : ℕ) (passed : ℕ → Bool) (span : Span) : Type 0 where
  pub at : ℕ
  pub before : ℕ
  pub within : (span.first ≤ at + 1) × (at + 1 ≤ span.last)
  pub earlier : before + 1 < span.first
  pub same : before % partitions ≡ at % partitions
  pub left : passed (before + 1) ≡ false
