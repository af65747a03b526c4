-- What a run of workers over boxes and a board comes to. This project's own.
use Rattle.std.specs.Prelude.{◌≡◌, ◌<◌, ◌-◌, ◌^◌, ℕ, List, Result, Ok, Err, All, fold, length, map}
use Rattle.event_worlds.specs.attempt_fates.declared.fates.Attempt.{Attempt}
use Rattle.event_worlds.specs.bolt_ops.RowOp.{Custom}
use Rattle.worker_stretches.specs.box_rows.declared.boxes.Boxes.{Boxes}
use Rattle.worker_stretches.specs.box_rows.FirstRow.{first_views}
use Rattle.worker_stretches.specs.box_rows.FitRows.{IsFitRow}
use Rattle.event_worlds.specs.commit_order.declared.stop.Stop.{Stop}
use Rattle.event_worlds.specs.commit_order.declared.stop.Stop.TheVariants as stop
use Rattle.event_worlds.specs.Accounted.{AreCaused}
use Rattle.pulse_board.specs.Books.{first_book}
use Rattle.pulse_board.specs.declared.seat.Board.{Board}
use Rattle.pulse_board.specs.declared.seat.BoardSeat.{BoardSeat}
use Rattle.pulse_board.specs.Seats.{book_of}
use Rattle.worker_rounds.specs.schedule_core.Runs.{RunTells, ended, first_answers, ticks_between}
use Rattle.worker_rounds.specs.schedule_core.Schedules.{HadMemory}
use Rattle.event_worlds.specs.state_parts.declared.parts.StatePart.{StatePart}
use Rattle.storm_stores.specs.CellMaps.{CellMap}
use Rattle.storm_ticks.specs.Ticking.{handed_on}
use Rattle.task_queues.specs.Passes.{view_of}
use Rattle.event_worlds.specs.topology_plan.Topology.{Topology}
use Rattle.event_worlds.specs.taken_records.Cuts.{Cut}
use Rattle.worker_rounds.specs.Running.{IsOffered}
use Rattle.worker_stretches.specs.Parts.{IsWholeSeat}

-- ---- what a run begins with

-- boxes are of a plan and as they were made: nothing was sent and nothing taken
pub record AreFirstBoxes (t : Topology) (boxes : Boxes) : Type 0 where
  pub plan : boxes.posts.plan.now ≡ t
  pub row : IsFitRow t boxes.posts.boxes.items boxes.row.items
  pub first : map view_of boxes.row.items ≡ first_views t

-- a seat is a board's and as it was made: it has all numbers and drew none
pub record IsFirstSeat (board : Board) (seat : BoardSeat) : Type 0 where
  pub whole : IsWholeSeat board seat
  pub first : book_of seat ≡ first_book

-- ---- what it comes to

-- A run of workers, which asked sources again and again how many ticks passed and which partitions
-- are shut, and over sources that tell, of ids too, came to what these tell.
pub record WorkersCome {S : Type 0} (told : (ℕ → ℕ → ℕ) → Type 0) (ticking : List ℕ → Type 0)
    (availing : List ℕ → Type 0) (holds : S → CellMap → Type 0) (count : S → ℕ) (t : Topology)
    (custom : Custom) (cut : Cut) (before after : ℕ) (answer : Result (Unit {0}) Stop)
    (fates : List Attempt) (old new : List (StatePart S)) : Type 0 where
  -- what the source of ticks answered
  pub answers : List ℕ
  pub handed_out : after ≡ fold handed_on before answers
  pub asked : (to_come : List ℕ) → ticking to_come
      → answers ≡ first_answers (length answers) to_come
  -- which partitions are shut, by the other source, which was asked as often
  pub shuts : List ℕ
  pub as_often : length shuts ≡ length answers
  pub asked_shut : (to_come : List ℕ) → availing to_come
      → shuts ≡ first_answers (length shuts) to_come
  -- with partitions each attempt has records of partitions that are open by one of these answers
  pub offered : HadMemory (ended answer) → 0 < t.partitions
      → All (λ (a : Attempt). IsOffered t.partitions shuts a.spans) fates
  -- what the answer, the fates and the parts tell
  pub tells : RunTells holds count t custom cut (ticks_between before after) (ended answer) fates
      old new
  pub drawn : (words : ℕ → ℕ → ℕ) → told words → HadMemory (ended answer)
      → AreCaused t custom cut (ticks_between before after) words fates

-- no transaction ran out of attempts: it is all committed, or a fault stopped the run
abbrev pub NothingRanOut : Result (Unit {0}) Stop → Type 0
NothingRanOut (Ok done) = Unit {0}
NothingRanOut (Err (stop.Exhausted txid)) = ⊥
NothingRanOut (Err (stop.BadCell key)) = Unit {0}
NothingRanOut (Err (stop.Follow txid)) = Unit {0}
NothingRanOut (Err stop.Memory) = Unit {0}

-- a seat drew a number for each of so many ticks, where the count of them has not come to its end
abbrev pub DrewEach : ℕ → BoardSeat → Type 0
DrewEach ticks seat = ticks < 2 ^ 64 - 1 → length (book_of seat).drawn ≡ ticks
