-- An engine beside boxes, between stretches: what led to it, where all is that was taken from the
-- boxes, and that nothing was lost. This project's own.
use Rattle.std.specs.Prelude.{◌≡◌, ◌≤◌, ◌<◌, ◌^◌, ℕ, ◌+◌, ◌-◌, min, true, List, [], ◌++◌, All, length, Some, None, slice_get}
use Rattle.std.specs.List.{AllByRecursion}
use Rattle.event_worlds.specs.attempt_fates.declared.fates.Attempt.{Attempt}
use Rattle.event_worlds.specs.bolt_ops.RowOp.{Custom, IsCustom}
use Rattle.box_account.specs.Hearing.{HeardBeforeFailing}
use Rattle.box_account.specs.Inboxes.{GoesThrough}
use Rattle.box_rows.specs.declared.mail.Mail.{Mail}
use Rattle.box_rows.specs.FitRows.{held_in}
use Rattle.event_worlds.specs.commit_turns.Outcomes.{IsOutcome}
use Rattle.event_engine.specs.declared.engine.Engine.{Engine}
use Rattle.event_engine.specs.Engines.{Gives, HasOutcomes, has_ended, shape, sources}
use Rattle.event_worlds.specs.Accounted.{IsInput}
use Rattle.event_worlds.specs.Beside.{LedBeside}
use Rattle.event_worlds.specs.Rounds.{CanFinish}
use Rattle.event_worlds.specs.Worlds.{Known, World}
use Rattle.event_worlds.specs.output_collector.Draws.{Draws}
use Rattle.pulse_board.specs.declared.rule.Book.{Book}
use Rattle.event_worlds.specs.state_parts.declared.answer.CommitOutcome.{CommitOutcome}
use Rattle.event_worlds.specs.state_parts.declared.answer.CommitOutcome.TheVariants.{Done}
use Rattle.event_worlds.specs.storm_ids.declared.ids.Ids.{Ghosts}
use Rattle.task_queues.specs.declared.pass.Pass.{Pass}
use Rattle.event_worlds.specs.topology_plan.Topology.{Topology}
use Rattle.event_worlds.specs.tree_model.declared.messages.Parcel.{Parcel}
use Rattle.event_worlds.specs.taken_records.Cuts.{Cut}
use Rattle.event_worlds.specs.tuple_account.Histories.{History, weigh_parcels}
use Rattle.world_progress.specs.Doing.{done}
use Rattle.world_progress.specs.Lasting.{AreSeats, IsFine}
use Rattle.world_progress.specs.Rounding.{IsOpen}
use Rattle.worker_stretches.specs.Teams.{Waiting}

-- ---- what waits

-- what waits beside an engine: what boxes hold, and parcels that are still to be handed over
abbrev pub beside_it : List (Pass Mail) → List Parcel → Waiting
beside_it row left f = held_in row f + weigh_parcels f left

-- ---- what stands

-- nothing was lost: entries are young, none was dropped, and no commit failed
pub record IsLasting (t : Topology) (h : History) (w : World) : Type 0 where
  pub seats : AreSeats t w
  pub whole : h.dropped ≡ []
  pub fine : AllByRecursion IsFine w.fates

-- A history led to a world and to what waits beside it. All that was taken from boxes was executed,
-- met or heard, or stands in an inbox, and a verdict was heard before a commit failed. Where no
-- commit fails, and fewer ticks passed than there are buckets, nothing was lost.
pub record Stands (t : Topology) (custom : Custom) (cut : Cut) (words : ℕ → ℕ → ℕ)
    (outcomes : List CommitOutcome) (row : List (Pass Mail)) (left : List Parcel) (h : History)
    (k : Known) : Type 0 where
  pub led : LedBeside t custom cut words (beside_it row left) h k
  pub through : GoesThrough row h k.world
  pub heard : HeardBeforeFailing h k.world.fates
  pub lasts : All (λ (how : CommitOutcome). how ≡ Done) outcomes → k.world.tick < t.buckets
      → IsLasting t h k.world

-- a seat at the board drew a number for each tick, up to 2^64 - 1
abbrev pub IsInTime : ℕ → Book → Type 0
IsInTime tick book = tick ≡ min (length book.drawn) (2 ^ 64 - 1)

-- ---- how it goes on

-- Later a history led to a world, in which the same partitions are shut. Where every bolt lets
-- batches through, no commit fails and few ticks passed, no less was done, or so much more where
-- all is not over and no partition is shut.
pub record Later (t : Topology) (custom : Custom) (cut : Cut) (words : ℕ → ℕ → ℕ)
    (outcomes : List CommitOutcome) (row : List (Pass Mail)) (left : List Parcel) (least : ℕ)
    (given : ℕ → List ℕ) (counts : ℕ → ℕ) (h : History) (was is : World) (over : Type 0)
    : Type 0 where
  pub history : History
  pub now : ℕ → ℕ
  pub counted : (s : ℕ) → now s ≡ counts s + length (given s)
  pub stands : Stands t custom cut words outcomes row left history
      (record { world = is; counts = now })
  pub shut : is.shut ≡ was.shut
  pub rose : (0 < least → IsOpen cut was) → CanFinish t
      → All (λ (how : CommitOutcome). how ≡ Done) outcomes
      → is.tick < t.buckets → (over → ⊥) → done h was + least ≤ done history is

module _ {I : Type 0} {g : Ghosts I} where
  -- An engine went on beside boxes: sources gave words, attempts ended, and what stood stands
  -- still, with so much more done where all is not over.
  pub record GoesOn (tells : I → (ℕ → ℕ) → ℕ → Type 0) (t : Topology) (custom : Custom) (cut : Cut)
      (least : ℕ) (old new : Engine I g) (was is : List (Pass Mail)) (left now_left : List Parcel)
      : Type 0 where
    pub given : ℕ → List ℕ
    pub draws : (s : ℕ) (source : I) → slice_get (sources old) s ≡ Some source
        → (then : I) × (slice_get (sources new) s ≡ Some then) × Draws tells source (given s) then
    pub none : (s : ℕ) → slice_get (sources old) s ≡ None
        → (given s ≡ []) × (slice_get (sources new) s ≡ None)
    pub more : List Attempt
    pub added : new.fates ≡ old.fates ++ more
    pub ticks : old.tick ≤ new.tick
    pub over : has_ended old ≡ true → has_ended new ≡ true
    pub on : (words : ℕ → ℕ → ℕ) (counts : ℕ → ℕ) (outcomes : List CommitOutcome)
        → Gives words counts given → HasOutcomes outcomes new.fates
        → IsInput t cut → IsCustom custom → All (IsOutcome t) outcomes → (h : History)
        → Stands t custom cut words outcomes was left h
        (record { world = shape old; counts = counts })
        → Later t custom cut words outcomes is now_left least given counts h (shape old)
        (shape new) (has_ended new ≡ true)
