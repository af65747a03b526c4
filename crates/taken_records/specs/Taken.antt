-- Which records were taken: each at most once, and with partitions a front of each. Records are
-- counted from 1. This project's own.
use Rattle.std.specs.Prelude.{◌≡◌, ℕ, ◌+◌, ◌%◌, ◌<◌, ◌≤◌, ◌==◌, ◌||◌, ◌++◌, Bool, true, false, cond, List, [], ◌∷◌, length}
use Rattle.std.specs.List.{AllByRecursion}
use Rattle.record_spans.specs.declared.span.Span.{Span}
use Rattle.record_spans.specs.Spans.{AreApart, end_of, records_of, stands_in}
use Rattle.record_offers.specs.Offers.{batch_numbers, is_gone}

-- ---- numbers and marks, by functions

-- a number before some runs of numbers that are above it: it makes the first longer that follows it
abbrev pub joined : ℕ → List Span → List Span
joined n [] = record { first = n; last = n } ∷ []
joined n (span ∷ spans) =
    cond (span.first == n + 1) (record { first = n; last = span.last } ∷ spans)
    (record { first = n; last = n } ∷ span ∷ spans)

-- the maximal runs of rising numbers
abbrev pub runs_of : List ℕ → List Span
runs_of [] = []
runs_of (n ∷ numbers) = joined n (runs_of numbers)

-- marks of the records from a number on, where those of some spans are set
abbrev pub marked_from : Bool → List Span → ℕ → List Bool → List Bool
marked_from to spans n [] = []
marked_from to spans n (mark ∷ marks) =
    cond (stands_in spans n) to mark ∷ marked_from to spans (n + 1) marks

-- marks of all records, where those of some spans are set
abbrev pub marked : Bool → List Span → List Bool → List Bool
marked to spans gone = marked_from to spans 1 gone

-- marks after the records of some batches came back
abbrev pub put_back : List (List Span) → List Bool → List Bool
put_back [] gone = gone
put_back (spans ∷ batches) gone = put_back batches (marked false spans gone)

-- the batch of a transaction of a spout without partitions, as spans
abbrev pub batch_spans : (records size txid : ℕ) → List Span
batch_spans records size txid = runs_of (batch_numbers records size txid)

-- ---- what was taken

-- 1 for yes
abbrev pub one_if : Bool → ℕ
one_if mark = cond mark 1 0

-- in how many of some batches, each as spans, a record stands
abbrev pub times_in : List (List Span) → ℕ → ℕ
times_in [] n = 0
times_in (spans ∷ taken) n = one_if (stands_in spans n) + times_in taken n

-- spans that hold a record, at most as many as the size, of so many
pub record IsBatch (records size : ℕ) (spans : List Span) : Type 0 where
  pub apart : AreApart 0 spans
  pub within : end_of 0 spans ≤ records + 1
  pub some : 1 ≤ length (records_of spans)
  pub few : length (records_of spans) ≤ size

-- Of the records, some of which were gone at first, these batches were taken: each record is gone
-- as often as it was gone at first or stands in one of them, so once at most.
pub record AreTaken (began gone : List Bool) (size : ℕ) (taken : List (List Span)) : Type 0 where
  pub marks : length gone ≡ length began
  pub batches : AllByRecursion (IsBatch (length began) size) taken
  pub once : (n : ℕ) → 1 ≤ n → n ≤ length began
      → one_if (is_gone gone n) ≡ one_if (is_gone began n) + times_in taken n

-- ---- fronts

-- With a record each earlier one of its partition has passed. Here i and j are places, counted
-- from 0.
abbrev pub IsFront : (partitions records : ℕ) → (ℕ → Bool) → Type 0
IsFront partitions records passed =
    (i j : ℕ) → i < j → j < records → i % partitions ≡ j % partitions
    → passed (j + 1) ≡ true → passed (i + 1) ≡ true

-- whether a record has passed before, or stands in one of some batches
abbrev pub passed_with : (ℕ → Bool) → List (List Span) → ℕ → Bool
passed_with passed [] n = passed n
passed_with passed (spans ∷ taken) n = stands_in spans n || passed_with passed taken n

-- after each of some batches, one after another, what has passed is a front of each partition
abbrev pub StayFronts : (partitions records : ℕ) → (ℕ → Bool) → List (List Span) → Type 0
StayFronts partitions records passed taken =
    (earlier later : List (List Span)) → taken ≡ earlier ++ later
    → IsFront partitions records (passed_with passed earlier)
