-- A run of workers while it goes on. This project's own.
use Rattle.std.specs.Prelude.{◌≡◌, ◌≤◌, ◌<◌, ◌-◌, ◌^◌, ◌++◌, ◌∷◌, ℕ, List, [], Result, Err, OnOk, All, length, min, sum}
use Rattle.event_worlds.specs.bolt_ops.RowOp.{Custom, IsCustom}
use Rattle.worker_stretches.specs.box_rows.declared.mail.Mail.{Mail}
use Rattle.worker_stretches.specs.box_rows.FitRows.{IsFitRow}
use Rattle.event_worlds.specs.commit_turns.Outcomes.{IsOutcome}
use Rattle.worker_stretches.specs.event_engine.declared.engine.Engine.{Engine}
use Rattle.worker_stretches.specs.event_engine.Engines.{Gives, HasOutcomes, shape}
use Rattle.event_worlds.specs.Accounted.{IsInput}
use Rattle.event_worlds.specs.Rounds.{CanFinish, DoesNotCoincide, rounds_needed}
use Rattle.pulse_board.specs.declared.seat.Board.{Board}
use Rattle.pulse_board.specs.declared.seat.BoardSeat.{BoardSeat}
use Rattle.worker_rounds.specs.schedule_core.Driving.{RunsOut}
use Rattle.worker_rounds.specs.schedule_core.Rounding.{Asked, AskedShut}
use Rattle.worker_rounds.specs.schedule_core.Runs.{first_answers}
use Rattle.worker_rounds.specs.schedule_core.declared.fault.RunFault.{RunFault}
use Rattle.worker_rounds.specs.schedule_core.declared.fault.RunFault.TheVariants as fault
use Rattle.event_worlds.specs.state_parts.declared.answer.CommitOutcome.{CommitOutcome}
use Rattle.event_worlds.specs.state_parts.declared.answer.CommitOutcome.TheVariants.{Done}
use Rattle.event_worlds.specs.state_parts.declared.parts.StatePart.{StatePart}
use Rattle.event_worlds.specs.storm_ids.declared.ids.Ids.{Ghosts}
use Rattle.storm_stores.specs.CellMaps.{CellMap}
use Rattle.task_queues.specs.declared.pass.Mailbox.{Mailbox}
use Rattle.task_queues.specs.declared.pass.Pass.{Pass}
use Rattle.event_worlds.specs.topology_plan.Topology.{Topology}
use Rattle.event_worlds.specs.taken_records.Cuts.{Cut}
use Rattle.event_worlds.specs.tuple_account.Histories.{History}
use Rattle.worker_rounds.specs.Running.{Broken, HasOffered, MovesOn, RunsOn, Stopped}
use Rattle.worker_runs.specs.WorkerRuns.{DrewEach}
use Rattle.worker_stretches.specs.Parts.{IsWholeSeat}
use Rattle.worker_stretches.specs.Standing.{Stands}
use Rattle.worker_rounds.specs.worker_turns.Carrying.{AreEmpty}
use Rattle.worker_stretches.specs.world_progress.Rounding.{IsOpen}

-- A row of these boxes and a seat at this board have all numbers, and the seat drew a number for
-- each of so many ticks.
pub record IsAllBack (t : Topology) (boxes : List (Mailbox Mail)) (board : Board)
    (row : List (Pass Mail)) (seat : BoardSeat) (ticks : ℕ) : Type 0 where
  pub row_is : IsFitRow t boxes row
  pub seat_is : IsWholeSeat board seat
  pub drawn : DrewEach ticks seat

module _ {I : Type 0} {g : Ghosts I} (tells : I → (ℕ → ℕ) → ℕ → Type 0) (t : Topology)
    (custom : Custom) (cut : Cut) (none : Type 0) where
  -- An engine went on from where something stood beside its boxes, by words that its sources gave,
  -- where commits came to these outcomes.
  pub record StoodAt (outcomes : List CommitOutcome) (least : ℕ) (old new : Engine I g)
      (row now_row : List (Pass Mail))
      (goes : MovesOn tells t custom cut none least old new row now_row) : Type 0 where
    pub words : ℕ → ℕ → ℕ
    pub counts : ℕ → ℕ
    pub history : History
    pub gives : Gives words counts goes.given
    pub has : HasOutcomes outcomes new.fates
    pub input : IsInput t cut
    pub keeps : IsCustom custom
    pub good : All (IsOutcome t) outcomes
    pub stands : Stands t custom cut words outcomes row [] history
        (record { world = shape old; counts = counts })

module _ {I S T : Type 0} {g : Ghosts I} (tells : I → (ℕ → ℕ) → ℕ → Type 0)
    (holds : S → CellMap → Type 0) (count : S → ℕ) (handed : T → ℕ) (ticking : T → List ℕ → Type 0)
    (t : Topology) (custom : Custom) (cut : Cut) (none : Type 0) where
  -- A round of the caller for each of these answers of a source of ticks, and stretches between
  -- them, led an engine without a tick to an engine. Where every bolt lets batches through, none of
  -- the partitions was shut, as `none` says, no ids coincided, no commit failed and few ticks are
  -- to come, there were no more rounds than are needed.
  pub record Went (before : T) (answers : List ℕ) (old new : Engine I g)
      (row now_row : List (Pass Mail)) (was is : List (StatePart S)) : Type 0 where
    pub rounds : ℕ
    pub many : rounds ≡ length answers
    pub runs : RunsOn tells holds count t custom cut none rounds old new row now_row was is
    pub ticked : new.tick ≡ min (sum answers) (2 ^ 64 - 1)
    pub few : (to_come : List ℕ) → ticking before to_come
        → sum (first_answers (rounds_needed t custom cut) to_come) < t.buckets → CanFinish t
        → none → IsOpen cut (shape old) → All DoesNotCoincide new.fates
        → (outcomes : List CommitOutcome) → All (λ (how : CommitOutcome). how ≡ Done) outcomes
        → StoodAt tells t custom cut none outcomes rounds old new row now_row runs.goes
        → rounds ≤ rounds_needed t custom cut

  -- rounds went to an engine with empty boxes, and the last one met a bad cell
  pub record BrokeOff (before : T) (answers : List ℕ) (key : List ℕ) (old new : Engine I g)
      (row now_row : List (Pass Mail)) (was is : List (StatePart S)) : Type 0 where
    pub first : List ℕ
    pub last : ℕ
    pub answers_are : answers ≡ first ++ last ∷ []
    pub mid : Engine I g
    pub mid_row : List (Pass Mail)
    pub between : List (StatePart S)
    pub went : Went before first old mid row mid_row was between
    pub shut : ℕ
    pub broken : Broken tells holds count t custom cut shut last key mid new mid_row between is
    pub empty : AreEmpty mid_row
    pub same : now_row ≡ mid_row

  -- the same where a follower failed in the last one, at the commit of a transaction
  pub record StoppedOff (before : T) (answers : List ℕ) (txid : ℕ) (old new : Engine I g)
      (row now_row : List (Pass Mail)) (was is : List (StatePart S)) : Type 0 where
    pub first : List ℕ
    pub last : ℕ
    pub answers_are : answers ≡ first ++ last ∷ []
    pub mid : Engine I g
    pub mid_row : List (Pass Mail)
    pub between : List (StatePart S)
    pub went : Went before first old mid row mid_row was between
    pub shut : ℕ
    pub stopped : Stopped tells holds count t custom cut shut last txid mid new mid_row between is
    pub empty : AreEmpty mid_row
    pub same : now_row ≡ mid_row

  -- rounds went to an engine with empty boxes, and memory was wanted after it
  pub record WantedMemory (old new : Engine I g) (row : List (Pass Mail))
      (was is : List (StatePart S)) : Type 0 where
    pub rounds : ℕ
    pub mid : Engine I g
    pub mid_row : List (Pass Mail)
    pub between : List (StatePart S)
    pub runs : RunsOn tells holds count t custom cut none rounds old mid row mid_row was between
    pub empty : AreEmpty mid_row
    pub out : RunsOut tells holds count t custom cut mid new.fates between is

  -- What a run of rounds and stretches came to, in which another source was asked as often which
  -- partitions are shut, so that each attempt was offered by one of its answers.
  pub record RanOn {V : Type 0} (availing : V → List ℕ → Type 0)
      (done : Result (Unit {0}) RunFault) (old new : Engine I g)
      (row now_row : List (Pass Mail)) (was is : List (StatePart S)) (before after : T)
      (avail later : V) : Type 0 where
    pub answers : List ℕ
    pub asked : Asked handed ticking answers before after
    pub shuts : List ℕ
    pub as_often : length shuts ≡ length answers
    pub asked_shut : AskedShut availing shuts avail later
    pub offered : (done ≡ Err fault.Memory → ⊥) → IsInput t cut → 0 < t.partitions
        → HasOffered t.partitions [] old → HasOffered t.partitions shuts new
    pub went : OnOk done (Went before answers old new row now_row was is)
    pub bad : (key : List ℕ) → done ≡ Err (fault.BadCell key)
        → BrokeOff before answers key old new row now_row was is
    pub failed : (txid : ℕ) → done ≡ Err (fault.Follow txid)
        → StoppedOff before answers txid old new row now_row was is
    pub short : done ≡ Err fault.Memory → WantedMemory old new row was is
