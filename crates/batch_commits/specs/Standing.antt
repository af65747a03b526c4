-- When all parts stand at the batches that were committed. This project's own.
use Rattle.std.specs.Prelude.{◌≡◌, ◌≤◌, ◌⊎◌, ◌+◌, ◌*◌, ℕ, List, [], ◌∷◌, IsSome, Option, Some, filter, length, map, slice_get}
use Rattle.std.specs.List.{AllZip, flat_map, range_with_len}
use Rattle.std.specs.Str.{IsUtf8}
use Rattle.attempt_fates.specs.declared.fates.Attempt.{Attempt}
use Rattle.attempt_fates.specs.declared.fates.End.{End}
use Rattle.attempt_fates.specs.declared.fates.End.TheVariants as end
use Rattle.attempt_fates.specs.Fates.{is_failed_commit}
use Rattle.commit_turns.specs.Account.{rows_at}
use Rattle.record_offers.specs.Offers.{batch_count}
use Rattle.record_spans.specs.declared.span.Span.{Span}
use Rattle.state_cells.specs.Turns.{IsBad}
use Rattle.state_parts.specs.Commits.{CountFollows, FailedOnceAtMost, IsFailedPart}
use Rattle.state_parts.specs.declared.answer.CommitOutcome.{CommitOutcome}
use Rattle.state_parts.specs.declared.answer.CommitOutcome.TheVariants.{Failed}
use Rattle.state_parts.specs.declared.parts.StatePart.{StatePart}
use Rattle.state_parts.specs.Makers.{RoseBySum}
use Rattle.state_parts.specs.PartPlans.{IsOneOf, PartPlan}
use Rattle.state_parts.specs.Standing.{AllAreAt, AllStand}
use Rattle.storm_stores.specs.CellMaps.{CellMap, cell_at}
use Rattle.taken_records.specs.Cuts.{Cut}
use Rattle.taken_records.specs.Taken.{batch_spans, times_in}
use Rattle.tuple_account.specs.bolt_ops.RowOp.{Custom}
use Rattle.tuple_account.specs.topology_plan.declared.parts.Kind.{Kind}
use Rattle.tuple_account.specs.topology_plan.Topology.{Topology}
use Rattle.tuple_account.specs.tree_model.declared.write.Write.{Write}
use Rattle.tuple_account.specs.tree_model.Trees.{writes}

-- ---- batches

-- the writes of the records of a batch
abbrev pub writes_at : Topology → Custom → Cut → List Span → List Write
writes_at t custom cut spans = writes t custom (rows_at cut spans)

-- the writes of the records of some batches, one batch after another
abbrev pub writes_of : Topology → Custom → Cut → List (List Span) → List Write
writes_of t custom cut batches = writes t custom (flat_map (rows_at cut) batches)

-- The batch of the next transaction after these: without partitions it is known, and with
-- partitions it may be any.
abbrev pub IsNextBatch : Cut → List (List Span) → List Span → Type 0
IsNextBatch cut batches spans =
    cut.partitions ≡ 0 → spans ≡ batch_spans (length cut.gone) cut.size (length batches + 1)

-- each record stands in one of these batches at least
abbrev pub HoldAll : Cut → List (List Span) → Type 0
HoldAll cut batches = (n : ℕ) → 1 ≤ n → n ≤ length cut.gone → 1 ≤ times_in batches n

-- the batches of the transactions 1 to so many of a spout without partitions
abbrev pub first_batches : Cut → ℕ → List (List Span)
first_batches cut many = map (batch_spans (length cut.gone) cut.size) (range_with_len 1 many)

-- how many batches such a spout has
abbrev pub batches_in : Cut → ℕ
batches_in cut = batch_count (length cut.gone) cut.size

-- All parts stand at these batches, which the transactions 1 and on committed in this order: a
-- key's value is that after the writes of the records of each of them, once each. The commit of the
-- next transaction may have been begun, whatever its batch is. Where these batches hold all records
-- no cell has a larger transaction.
pub record PartsStand {S : Type 0} (tells : S → CellMap → Type 0) (t : Topology)
    (custom : Custom) (cut : Cut) (batches : List (List Span)) (parts : List (StatePart S))
    : Type 0 where
  pub stand : (spans : List Span) → IsNextBatch cut batches spans
      → AllStand tells t custom (length batches) (writes_of t custom cut batches)
      (writes_at t custom cut spans) parts
  pub at_end : HoldAll cut batches → (spans : List Span) → IsNextBatch cut batches spans
      → AllAreAt tells t custom (length batches) (writes_of t custom cut batches)
      (writes_at t custom cut spans) parts

-- ---- cells that no part takes

-- a key has a cell that a part of this kind does not take, or it has one and is no text
abbrev pub IsStrange : Kind → List ℕ → Option (List ℕ) → Type 0
IsStrange kind key held = IsBad kind held ⊎ (IsSome held × (IsUtf8 key → ⊥))

-- the store of one of the parts tells such a cell at this key, where it tells any
pub record HasStrangeAt {S : Type 0} (tells : S → CellMap → Type 0) (parts : List (StatePart S))
    (key : List ℕ) : Type 0 where
  pub place : ℕ
  pub at : StatePart S
  pub is_at : slice_get parts place ≡ Some at
  pub strange : (cells : CellMap) → tells at.over.store cells
      → IsStrange at.over.kind key (cell_at cells key)

-- the key of a write is a text
abbrev pub HasTextKey : Write → Type 0
HasTextKey write = IsUtf8 write.key

-- ---- counts of faults

-- What the end of an attempt says of the count of a part: the part at which a commit is told to
-- have failed failed once, by the told counts, and another one once at most. At any other end no
-- part failed.
abbrev pub CountStep : (component part : ℕ) → End → (low high : ℕ) → Type 0
CountStep component part (end.Committed list) low high = high ≡ low
CountStep component part (end.Failed path) low high = high ≡ low
CountStep component part end.TimedOut low high = high ≡ low
CountStep component part (end.Coincided list) low high = high ≡ low
CountStep component part (end.CommitFailed c p before after) low high =
    CountFollows (Failed c p before after) component part low high
CountStep component part (end.Dropped by) low high = high ≡ low

-- a count went from `low` to `high` along the ends of these attempts, one after another
abbrev pub CountsRun : (component part low : ℕ) → List Attempt → ℕ → Type 0
CountsRun component part low [] high = low ≡ high
CountsRun component part low (a ∷ fates) high =
    (mid : ℕ) × CountStep component part a.end low mid × CountsRun component part mid fates high

-- the counts of all parts went along these fates, and no part failed otherwise
abbrev pub FailuresAreCounted : {S : Type 0} → (S → ℕ) → List Attempt → List (StatePart S)
    → List (StatePart S) → Type 0
FailuresAreCounted count fates old new =
    AllZip
    (λ was is.
    CountsRun was.component was.part (count was.over.store) fates (count is.over.store))
    old new

-- the same where one more commit was tried, which no fate tells: each part may have failed once
-- more
abbrev pub AllButLastAreCounted : {S : Type 0} → (S → ℕ) → List Attempt → List (StatePart S)
    → List (StatePart S) → Type 0
AllButLastAreCounted count fates old new =
    AllZip
    (λ was is.
    (mid : ℕ) × CountsRun was.component was.part (count was.over.store) fates mid
    × FailedOnceAtMost mid (count is.over.store))
    old new

-- where the commit of an attempt failed, it failed at one of these parts
abbrev pub FailsAtOneOf : List PartPlan → Attempt → Type 0
FailsAtOneOf plans a =
    (component part before after : ℕ) → a.end ≡ end.CommitFailed component part before after
    → IsOneOf plans component part

-- how many commits failed
abbrev pub failed_commits : List Attempt → ℕ
failed_commits fates = length (filter (λ (a : Attempt). is_failed_commit a.end) fates)

-- How much the counts of so many parts rose together where so many commits failed: by one at least
-- and by one a part at most for each of them, and by nothing where none failed. A count that has
-- come to its end rises no more.
pub record RoseByFailures (parts failed before after : ℕ) : Type 0 where
  pub at_least : RoseBySum failed before after
  pub at_most : after ≤ before + failed * parts
  pub never_falls : before ≤ after
  pub none : failed ≡ 0 → after ≡ before

-- where an outcome tells that a part's store failed, that part's count rose as it tells
abbrev pub TellsFailedPart : {S : Type 0} → (S → ℕ) → List (StatePart S) → List (StatePart S)
    → CommitOutcome → Type 0
TellsFailedPart count old new how =
    (component part before after : ℕ) → how ≡ Failed component part before after
    → IsFailedPart count old new component part before after
