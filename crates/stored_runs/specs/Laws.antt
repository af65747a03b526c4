-- The laws that a run over the stores of a maker rests on. This project's own.
use Rattle.std.specs.Prelude.{◌≡◌, ◌<◌, ◌⊎◌, ◌↔◌, ℕ, true, List, [], All, length}
use Rattle.std.specs.List.{AllZip}
use Rattle.event_worlds.specs.attempt_fates.declared.fates.Attempt.{Attempt}
use Rattle.batch_commits.specs.Standing.{AllButLastAreCounted, FailsAtOneOf, FailuresAreCounted, HasStrangeAt, HoldAll, PartsStand, RoseByFailures, batches_in, failed_commits, writes_of}
use Rattle.event_worlds.specs.bolt_ops.RowOp.{Custom, IsCustom}
use Rattle.event_worlds.specs.commit_turns.Desks.{Desk}
use Rattle.event_worlds.specs.commit_turns.Kept.{IsKept}
use Rattle.event_worlds.specs.commit_turns.Outcomes.{IsOutcome}
use Rattle.event_worlds.specs.commit_turns.Turns.{is_finished}
use Rattle.event_worlds.specs.Accounted.{Accounted, IsInput}
use Rattle.event_worlds.specs.Rounds.{CanFinish, DoesNotCoincide, HasRounds, rounds_needed, ticks_in}
use Rattle.event_worlds.specs.Worlds.{Known, Step, first_known, run, world_after}
use Rattle.event_worlds.specs.record_spans.declared.span.Span.{Span}
use Rattle.event_worlds.specs.state_parts.declared.answer.CommitOutcome.{CommitOutcome}
use Rattle.event_worlds.specs.state_parts.declared.answer.CommitOutcome.TheVariants.{Done}
use Rattle.event_worlds.specs.state_parts.declared.parts.StatePart.{StatePart}
use Rattle.event_worlds.specs.state_parts.Commits.{IsBadAt}
use Rattle.event_worlds.specs.state_parts.Makers.{RoseBySum, faults_of}
use Rattle.event_worlds.specs.state_parts.PartPlans.{AreParts, IsOneOf, plans_of}
use Rattle.event_worlds.specs.state_parts.PartTables.{IsBadRowAt, IsTableOver}
use Rattle.event_worlds.specs.state_parts.Standing.{IsEmpty}
use Rattle.storm_stores.specs.CellMaps.{CellMap}
use Rattle.event_worlds.specs.topology_plan.Topology.{Topology}
use Rattle.event_worlds.specs.topology_plan.Wired.{IsWired}
use Rattle.event_worlds.specs.tree_model.declared.write.Table.{Table}
use Rattle.event_worlds.specs.tree_model.Tables.{AreTables, states_of}
use Rattle.event_worlds.specs.taken_records.Cuts.{Cut, IsStart}
use Rattle.event_worlds.specs.tuple_account.Ends.{IsPart}
use Rattle.world_progress.specs.Lasting.{NoneAborted}
use Rattle.world_progress.specs.Rounding.{ShutsNone}

-- Worlds are accounted for, where nothing is lost no attempt aborts with partitions, and enough
-- rounds in which nothing is lost and no partition is shut commit every record.
pub record WorldLaws (t : Topology) (custom : Custom) (cut : Cut) : Type 0 where
  pub first : (words : ℕ → ℕ → ℕ) → IsInput t cut
      → Accounted t custom cut words (first_known t cut words)
  pub led : (words : ℕ → ℕ → ℕ) (outcomes : List CommitOutcome) (steps : List Step) (k : Known)
      → IsInput t cut → IsCustom custom → All (IsOutcome t) outcomes
      → Accounted t custom cut words k
      → Accounted t custom cut words (run t custom cut words outcomes steps k)
  -- where no record is left uncommitted without partitions, the last batch is committed
  pub at_last_batch : (d : Desk) (fates : List Attempt) → IsStart cut → IsKept t cut d fates
      → cut.partitions ≡ 0 → (is_finished t cut d ≡ true) ↔ (d.committed ≡ batches_in cut)
  pub none_abort : (words : ℕ → ℕ → ℕ) (outcomes : List CommitOutcome) (steps : List Step)
      → IsInput t cut → IsCustom custom → CanFinish t
      → All (λ (how : CommitOutcome). how ≡ Done) outcomes → ticks_in steps < t.buckets
      → All DoesNotCoincide (world_after t custom cut words outcomes steps).fates
      → NoneAborted cut (world_after t custom cut words outcomes steps).fates
  pub rounds : (words : ℕ → ℕ → ℕ) (outcomes : List CommitOutcome) (steps : List Step)
      → IsInput t cut → IsCustom custom → CanFinish t
      → All (λ (how : CommitOutcome). how ≡ Done) outcomes
      → All DoesNotCoincide (world_after t custom cut words outcomes steps).fates
      → HasRounds t (rounds_needed t custom cut) steps → ticks_in steps < t.buckets
      → (0 < cut.partitions → All ShutsNone steps)
      → is_finished t cut (world_after t custom cut words outcomes steps).desk ≡ true

-- Failed commits are counted by the parts at which they fail, empty parts stand at no batches,
-- parts that stand have the tables, and a bad cell that is met is a strange one.
pub record PartLaws {S : Type 0} (tells : S → CellMap → Type 0) (count : S → ℕ) (t : Topology)
    (custom : Custom) (cut : Cut) : Type 0 where
  pub sum : (fates : List Attempt) (a b : List (StatePart S))
      → All (FailsAtOneOf (plans_of a)) fates → FailuresAreCounted count fates a b
      → RoseByFailures (length a) (failed_commits fates) (faults_of count a) (faults_of count b)
  pub last_sum : (fates : List Attempt) (a b : List (StatePart S))
      → All (FailsAtOneOf (plans_of a)) fates → AllButLastAreCounted count fates a b
      → RoseBySum (failed_commits fates) (faults_of count a) (faults_of count b)
  pub part : (parts : List (StatePart S)) (component part : ℕ) → AreParts t parts
      → IsPart t component part → IsOneOf (plans_of parts) component part
  pub begin : (parts : List (StatePart S)) → All (IsEmpty tells) parts
      → PartsStand tells t custom cut [] parts
  pub tables : (batches : List (List Span)) (parts : List (StatePart S)) (tables : List Table)
      → IsWired t → AreParts t parts → HoldAll cut batches
      → PartsStand tells t custom cut batches parts
      → AllZip (IsTableOver tells parts) (states_of t custom) tables
      → AreTables t custom (writes_of t custom cut batches) tables
  pub hold_known : (batches : List (List Span))
      → HoldAll cut batches ⊎ (HoldAll cut batches → ⊥)
  pub bad_cell : (parts : List (StatePart S)) (key : List ℕ) → IsBadAt tells parts key
      → HasStrangeAt tells parts key
  pub bad_row : (parts : List (StatePart S)) (key : List ℕ) → IsBadRowAt tells parts key
      → HasStrangeAt tells parts key
