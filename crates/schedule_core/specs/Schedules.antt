-- The steps of a schedule's events, and what a world answers. This project's own.
use Rattle.std.specs.Prelude.{◌≡◌, ℕ, Bool, true, false, List, [], ◌∷◌, Option, None, Some, Result, Ok, Err, length}
use Rattle.std.specs.List.{flat_map}
use Rattle.event_worlds.specs.attempt_fates.declared.fates.Attempt.{Attempt}
use Rattle.event_worlds.specs.attempt_fates.Fates.{committed}
use Rattle.event_worlds.specs.bolt_ops.RowOp.{Custom}
use Rattle.event_worlds.specs.commit_order.declared.stop.Stop.{Stop}
use Rattle.event_worlds.specs.commit_order.declared.stop.Stop.TheVariants.{Exhausted, BadCell, Follow, Memory}
use Rattle.event_worlds.specs.commit_turns.Turns.{is_finished}
use Rattle.event_worlds.specs.Worlds.{Step, World, coordinator_steps, of_acker, of_open, of_shut, of_task, of_tick, outcomes_of, rounds_steps, world_after}
use Rattle.schedule_core.specs.declared.ended.Ended.{Ended}
use Rattle.schedule_core.specs.declared.ended.Ended.TheVariants.{All, Unfinished}
use Rattle.schedule_reader.specs.declared.event.Event.{Event}
use Rattle.schedule_reader.specs.declared.event.Event.TheVariants as event
use Rattle.event_worlds.specs.topology_plan.Topology.{Topology}
use Rattle.event_worlds.specs.taken_records.Cuts.{Cut}

-- the steps of an event
abbrev pub steps_of : Topology → Event → List Step
steps_of t (event.Task n) = of_task n ∷ []
steps_of t (event.Acker n) = of_acker n ∷ []
steps_of t event.Coord = coordinator_steps
steps_of t event.Tick = of_tick ∷ []
steps_of t (event.Shut q) = of_shut q ∷ []
steps_of t (event.Open q) = of_open q ∷ []
steps_of t (event.Rounds count) = rounds_steps t count

abbrev pub all_steps : Topology → List Event → List Step
all_steps t events = flat_map (steps_of t) events

-- ---- answers

abbrev pub answer_by : Option ℕ → Bool → ℕ → Result Ended Stop
answer_by (Some txid) finished count = Err (Exhausted txid)
answer_by None true count = Ok All
answer_by None false count = Ok (Unfinished count)

-- as many attempts of a transaction aborted as a plan allows, or no record is left uncommitted, or
-- some is, and so many batches were committed
abbrev pub answer_of : Topology → Cut → World → Result Ended Stop
answer_of t cut w =
    answer_by w.desk.exhausted (is_finished t cut w.desk) (length (committed w.fates))

-- the answer is one that a world gives: it is no want of memory, no bad cell and no fault of a
-- follower
abbrev pub IsAnswer : Result Ended Stop → Type 0
IsAnswer (Ok ending) = Unit {0}
IsAnswer (Err (Exhausted txid)) = Unit {0}
IsAnswer (Err (BadCell key)) = ⊥
IsAnswer (Err (Follow txid)) = ⊥
IsAnswer (Err Memory) = ⊥

-- it is anything but want of memory
abbrev pub HadMemory : Result Ended Stop → Type 0
HadMemory (Ok ending) = Unit {0}
HadMemory (Err (Exhausted txid)) = Unit {0}
HadMemory (Err (BadCell key)) = Unit {0}
HadMemory (Err (Follow txid)) = Unit {0}
HadMemory (Err Memory) = ⊥

-- each commit that was tried has its end in the fates
abbrev pub EndsEach : Result Ended Stop → Type 0
EndsEach (Ok ending) = Unit {0}
EndsEach (Err (Exhausted txid)) = Unit {0}
EndsEach (Err (BadCell key)) = ⊥
EndsEach (Err (Follow txid)) = Unit {0}
EndsEach (Err Memory) = ⊥

-- The answer and the fates are those of the world after these steps, where sources have these words
-- and commits come to what the fates show.
pub record IsOfWorld (t : Topology) (custom : Custom) (cut : Cut) (words : ℕ → ℕ → ℕ)
    (steps : List Step) (answer : Result Ended Stop) (fates : List Attempt) : Type 0 where
  pub fates_are : fates ≡ (world_after t custom cut words (outcomes_of fates) steps).fates
  pub answer_is : answer
      ≡ answer_of t cut (world_after t custom cut words (outcomes_of fates) steps)
