-- An engine, with what waits beside it in boxes, before and after a stretch. This project's own.
use Rattle.std.specs.Prelude.{◌≡◌, ℕ, ◌+◌, List, [], ◌++◌, All, length, Some, None, slice_get}
use Rattle.event_worlds.specs.attempt_fates.declared.fates.Attempt.{Attempt}
use Rattle.event_worlds.specs.bolt_ops.RowOp.{Custom}
use Rattle.event_worlds.specs.commit_turns.Outcomes.{IsOutcome}
use Rattle.event_engine.specs.declared.acker.AckerSeat.{AckerSeat}
use Rattle.event_engine.specs.declared.engine.Engine.{Engine}
use Rattle.event_engine.specs.declared.task.TaskSeat.{TaskSeat}
use Rattle.event_engine.specs.Engines.{Gives, HasOutcomes, shape, sources}
use Rattle.event_worlds.specs.Accounted.{IsInput}
use Rattle.event_worlds.specs.Beside.{LedBeside}
use Rattle.event_worlds.specs.output_collector.Draws.{Draws}
use Rattle.event_worlds.specs.state_parts.declared.answer.CommitOutcome.{CommitOutcome}
use Rattle.pulse_board.specs.declared.rule.Book.{Book}
use Rattle.event_worlds.specs.storm_ids.declared.ids.Ids.{Ghosts}
use Rattle.event_worlds.specs.topology_plan.Topology.{Topology}
use Rattle.event_worlds.specs.taken_records.Cuts.{Cut}
use Rattle.event_worlds.specs.tuple_account.Histories.{History}
use Rattle.worker_pool.specs.declared.acker.AckerDesk.{AckerDesk}
use Rattle.worker_pool.specs.declared.desk.TaskDesk.{TaskDesk}
use Rattle.worker_stretches.specs.Places.{IsAckerAt, IsTaskAt, ZipFrom}
use Rattle.worker_stretches.specs.Teams.{BoxState, TeamDid, Waiting}

module _ {I : Type 0} {g : Ghosts I} where
  -- The tasks and ackers of seats did what they did, at desks, and are at their seats again.
  pub record SeatsDid (tells : I → (ℕ → ℕ) → ℕ → Type 0) (t : Topology) (custom : Custom)
      (book : Book) (old new : List (TaskSeat I g)) (before after : List AckerSeat)
      (was is : BoxState) : Type 0 where
    pub old_desks : List (TaskDesk I g)
    pub new_desks : List (TaskDesk I g)
    pub old_places : List AckerDesk
    pub new_places : List AckerDesk
    pub old_at : ZipFrom IsTaskAt 0 old old_desks
    pub new_at : ZipFrom IsTaskAt 0 new new_desks
    pub before_at : ZipFrom IsAckerAt 0 before old_places
    pub after_at : ZipFrom IsAckerAt 0 after new_places
    pub did : TeamDid tells t custom book old_desks new_desks old_places new_places was is

  -- An engine went on, with what waits beside it: sources gave words, attempts ended, and whatever
  -- led to the first leads to the second.
  pub record Leads (tells : I → (ℕ → ℕ) → ℕ → Type 0) (t : Topology) (custom : Custom) (cut : Cut)
      (old new : Engine I g) (before after : Waiting) : Type 0 where
    pub given : ℕ → List ℕ
    pub draws : (s : ℕ) (source : I) → slice_get (sources old) s ≡ Some source
        → (then : I) × (slice_get (sources new) s ≡ Some then) × Draws tells source (given s) then
    pub none : (s : ℕ) → slice_get (sources old) s ≡ None
        → (given s ≡ []) × (slice_get (sources new) s ≡ None)
    pub more : List Attempt
    pub added : new.fates ≡ old.fates ++ more
    pub leads : (words : ℕ → ℕ → ℕ) (counts : ℕ → ℕ) (outcomes : List CommitOutcome)
        → Gives words counts given → HasOutcomes outcomes new.fates
        → IsInput t cut → All (IsOutcome t) outcomes → (h : History)
        → LedBeside t custom cut words before h (record { world = shape old; counts = counts })
        → (later : History) × (now : ℕ → ℕ) × ((s : ℕ) → now s ≡ counts s + length (given s))
        × LedBeside t custom cut words after later (record { world = shape new; counts = now })
