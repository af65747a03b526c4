-- A maker of stores before and after a run over its stores. This project's own.
use Rattle.std.specs.Prelude.{◌≡◌, ◌≤◌, ◌+◌, ℕ, List, [], All, Some, filter, length, slice_get, sum}
use Rattle.std.specs.List.{AllZip}
use Rattle.std.specs.Str.{IsUtf8}
use Rattle.event_worlds.specs.attempt_fates.declared.fates.Attempt.{Attempt}
use Rattle.batch_commits.specs.Standing.{CountsRun, HoldAll, IsNextBatch, IsStrange, failed_commits, writes_at, writes_of}
use Rattle.event_worlds.specs.bolt_ops.RowOp.{Custom}
use Rattle.cell_format.specs.Standing.{IsWithin, Stands}
use Rattle.event_worlds.specs.record_spans.declared.span.Span.{Span}
use Rattle.event_worlds.specs.state_parts.Commits.{FailedOnceAtMost, is_for_part}
use Rattle.event_worlds.specs.state_parts.Makers.{RoseBySum}
use Rattle.event_worlds.specs.state_parts.PartPlans.{IsOneOf, PartPlan, planned_parts}
use Rattle.storm_stores.specs.CellMaps.{CellMap, cell_at}
use Rattle.event_worlds.specs.storm_values.Counts.{raised_by}
use Rattle.event_worlds.specs.topology_plan.Topology.{Topology, tasks_of}
use Rattle.event_worlds.specs.tree_model.Tables.{folded}
use Rattle.event_worlds.specs.tree_model.declared.write.Write.{Write}
use Rattle.event_worlds.specs.taken_records.Cuts.{Cut}

-- A store, as it stood at some moment, told these cells and had failed so often. Only the calls of
-- a store make a store, so there is none that no run of such calls leads to.
pub record StoreStood {S : Type 0} (tells : S → CellMap → Type 0) (count : S → ℕ) (cells : CellMap)
    (failed : ℕ) : Type 0 where
  pub store : S
  pub told : tells store cells
  pub counted : count store ≡ failed

-- A maker before and after a call: the cells that it told of each part of each component, the parts
-- for which it had made a store, how often its outside had failed, up to 2^64 - 1, and with which
-- cells and how many faults one of its stores stood at a moment.
pub record MakerUse : Type 1 where
  pub held : ℕ → ℕ → CellMap → Type 0
  pub holds : ℕ → ℕ → CellMap → Type 0
  pub had_made : ℕ → ℕ → Type 0
  pub has_made : ℕ → ℕ → Type 0
  pub faults_before : ℕ
  pub faults_after : ℕ
  pub stood : CellMap → ℕ → Type 0

-- the record of a maker, from what its trait and that of its stores tell
abbrev pub maker_use : {S M : Type 0} → (S → CellMap → Type 0) → (S → ℕ)
    → (M → ℕ → ℕ → CellMap → Type 0) → (M → ℕ → ℕ → Type 0) → (M → ℕ) → M → M → MakerUse
maker_use tells count holds made faults old new = record {
  held = holds old;
  holds = holds new;
  had_made = made old;
  has_made = made new;
  faults_before = faults old;
  faults_after = faults new;
  stood = StoreStood tells count;
}

-- ---- where maps stand

-- the writes of a part, in their order
abbrev pub writes_of_part : PartPlan → List Write → List Write
writes_of_part part writes = filter (is_for_part part.component part.part) writes

-- Cells are told of a part that stand at these batches, which the transactions 1 and on committed
-- in this order. The commit of the next transaction, with this batch, may have been begun. Where
-- the batches hold all records no cell has a larger transaction.
pub record StandsAt (t : Topology) (custom : Custom) (cut : Cut) (batches : List (List Span))
    (spans : List Span) (holds : ℕ → ℕ → CellMap → Type 0) (part : PartPlan) : Type 0 where
  pub cells : CellMap
  pub told : holds part.component part.part cells
  pub stands : Stands part.kind (folded custom part.by) (tasks_of t part.component) part.part
      (length batches) (writes_of_part part (writes_of t custom cut batches))
      (writes_of_part part (writes_at t custom cut spans)) (cell_at cells)
  pub within : HoldAll cut batches → IsWithin part.kind (length batches) (cell_at cells)

-- so it is with all parts, whatever the batch of the next transaction is
abbrev pub AllStandAt : Topology → Custom → Cut → List (List Span)
    → (ℕ → ℕ → CellMap → Type 0) → Type 0
AllStandAt t custom cut batches holds =
    (spans : List Span) → IsNextBatch cut batches spans
    → All (StandsAt t custom cut batches spans holds) (planned_parts t)

-- ---- what it told before

-- the maps of all parts stood at these batches
abbrev pub MapsStood : Topology → Custom → Cut → List (List Span) → MakerUse → Type 0
MapsStood t custom cut batches maker = AllStandAt t custom cut batches maker.held

-- it told of each part of the plan's states that it has no cell
abbrev pub BeganEmpty : Topology → MakerUse → Type 0
BeganEmpty t maker =
    All (λ (part : PartPlan). maker.held part.component part.part []) (planned_parts t)

-- One of the parts had at this key a cell that no part of its kind takes, or a cell where the key
-- is no text, as far as the maker told its cells.
pub record HadStrangeAt (t : Topology) (maker : MakerUse) (key : List ℕ) : Type 0 where
  pub place : ℕ
  pub part : PartPlan
  pub at : slice_get (planned_parts t) place ≡ Some part
  pub strange : (cells : CellMap) → maker.held part.component part.part cells
      → IsStrange part.kind key (cell_at cells key)

-- no cell was at a key that is no text
abbrev pub HadTextKeys : Topology → MakerUse → Type 0
HadTextKeys t maker = (key : List ℕ) → (IsUtf8 key → ⊥) → HadStrangeAt t maker key → ⊥

-- ---- what it tells after

-- the maps of all parts stand at these batches
abbrev pub MapsStand : Topology → Custom → Cut → List (List Span) → MakerUse → Type 0
MapsStand t custom cut batches maker = AllStandAt t custom cut batches maker.holds

-- one of the parts has such a cell at this key, as `HadStrangeAt` says it of what was told before
pub record HoldsStrangeAt (t : Topology) (maker : MakerUse) (key : List ℕ) : Type 0 where
  pub place : ℕ
  pub part : PartPlan
  pub at : slice_get (planned_parts t) place ≡ Some part
  pub strange : (cells : CellMap) → maker.holds part.component part.part cells
      → IsStrange part.kind key (cell_at cells key)

-- a part of which cells were told is told still
abbrev pub StillTold : MakerUse → PartPlan → Type 0
StillTold maker part =
    (cells : CellMap) → maker.held part.component part.part cells
    → (after : CellMap) × maker.holds part.component part.part after

-- All stores that were made came back: of each part of the plan cells are told still, and of all
-- others what was told before.
pub record CameBack (t : Topology) (maker : MakerUse) : Type 0 where
  pub told : All (StillTold maker) (planned_parts t)
  pub others : (c p : ℕ) (cells : CellMap) → (IsOneOf (planned_parts t) c p → ⊥)
      → maker.held c p cells → maker.holds c p cells
  pub never_falls : maker.faults_before ≤ maker.faults_after

-- no store was made, and nothing is told but what was
pub record IsUntouched (maker : MakerUse) : Type 0 where
  pub none_made : (c p : ℕ) → maker.has_made c p → maker.had_made c p
  pub same : (c p : ℕ) (cells : CellMap) → maker.held c p cells → maker.holds c p cells
  pub no_fault : maker.faults_after ≡ maker.faults_before

-- ---- how often stores failed

-- the counts of the stores of all parts, each of which ran from 0 through these fates
abbrev pub CountsOf : Topology → List Attempt → List ℕ → Type 0
CountsOf t fates counts =
    AllZip
    (λ (part : PartPlan) (count : ℕ). CountsRun part.component part.part 0 fates count)
    (planned_parts t) counts

-- What stores failed is what these fates tell: the store of each part had the counts that they
-- tell, and stood still between them. The maker's count rose by the counts of all stores, and so by
-- one at least for each failed commit.
pub record FaultsAreCounted (t : Topology) (maker : MakerUse) (fates : List Attempt) : Type 0 where
  pub counts : List ℕ
  pub each : CountsOf t fates counts
  pub by_counts : maker.faults_after ≡ raised_by maker.faults_before (sum counts)
  pub by_failures : RoseBySum (failed_commits fates) maker.faults_before maker.faults_after

-- The same up to a last reading, in which the store of one part failed once, and no other: before
-- it this store stood with the cells that came back, where it told any, and with the count that it
-- has by the fates.
pub record ReadingFailed (t : Topology) (maker : MakerUse) (fates : List Attempt) : Type 0 where
  pub counts : List ℕ
  pub each : CountsOf t fates counts
  pub place : ℕ
  pub part : PartPlan
  pub before : ℕ
  pub at : slice_get (planned_parts t) place ≡ Some part
  pub count_at : slice_get counts place ≡ Some before
  pub stood : (cells : CellMap) → maker.held part.component part.part cells
      → (after : CellMap)
      × (maker.holds part.component part.part after × maker.stood after before)
  pub by_counts : maker.faults_after ≡ raised_by maker.faults_before (sum counts + 1)
  pub by_failures : RoseBySum (failed_commits fates + 1) maker.faults_before maker.faults_after

-- The same up to a commit that a bad cell broke off, in which each store may have failed once, as
-- no fate tells.
pub record FaultsBeforeBadCell (t : Topology) (maker : MakerUse) (fates : List Attempt) : Type 0 where
  pub counts : List ℕ
  pub each : CountsOf t fates counts
  pub ends : List ℕ
  pub once_at_most : AllZip FailedOnceAtMost counts ends
  pub by_counts : maker.faults_after ≡ raised_by maker.faults_before (sum ends)
  pub by_failures : RoseBySum (failed_commits fates) maker.faults_before maker.faults_after
