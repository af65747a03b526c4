-- Rounds of an engine with the ticks of a source, and how a run ends. This project's own.
use Rattle.std.specs.Prelude.{◌≡◌, ℕ, List, ◌++◌, Result, Ok, Err, OnOk, length, map, fold, drop, replicate}
use Rattle.std.specs.List.{range_with_len}
use Rattle.event_worlds.specs.bolt_ops.RowOp.{Custom}
use Rattle.event_worlds.specs.commit_order.declared.stop.Stop.{Stop}
use Rattle.event_worlds.specs.commit_order.declared.stop.Stop.TheVariants as stop
use Rattle.event_engine.specs.Boosts.{Boosts}
use Rattle.event_engine.specs.Engines.{Goes}
use Rattle.event_engine.specs.Shutting.{shutting_steps}
use Rattle.event_engine.specs.declared.engine.Engine.{Engine}
use Rattle.event_worlds.specs.Worlds.{Step, coordinator_steps, of_acker, of_task, of_tick}
use Rattle.schedule_core.specs.declared.ended.Ended.{Ended}
use Rattle.schedule_core.specs.declared.fault.RunFault.{RunFault}
use Rattle.schedule_core.specs.declared.fault.RunFault.TheVariants as fault
use Rattle.schedule_core.specs.Following.{Unfollowed}
use Rattle.schedule_core.specs.Driving.{Breaks, Drives, WantsMemory}
use Rattle.schedule_core.specs.Runs.{HasRoundsOf, first_answers}
use Rattle.event_worlds.specs.state_parts.declared.parts.StatePart.{StatePart}
use Rattle.event_worlds.specs.storm_ids.declared.ids.Ids.{Ghosts}
use Rattle.storm_stores.specs.CellMaps.{CellMap}
use Rattle.storm_ticks.specs.Ticking.{handed_on}
use Rattle.event_worlds.specs.taken_records.Cuts.{Cut}
use Rattle.event_worlds.specs.topology_plan.Topology.{Topology, tasks_in_all}

-- what a run answers that came to this, where an engine that nothing stopped answers that
abbrev pub end_by : Result (Unit {0}) RunFault → Result Ended Stop → Result Ended Stop
end_by (Ok done) answer = answer
end_by (Err (fault.BadCell key)) answer = Err (stop.BadCell key)
end_by (Err (fault.Follow txid)) answer = Err (stop.Follow txid)
end_by (Err fault.Memory) answer = Err stop.Memory

-- a round up to the coordinator's step
abbrev pub opening_steps : Topology → List Step
opening_steps t =
    map of_task (range_with_len 0 (tasks_in_all t)) ++ map of_acker (range_with_len 0 t.ackers)

-- and the rest of it, with so many ticks
abbrev pub closing_steps : ℕ → List Step
closing_steps ticks = replicate ticks of_tick ++ coordinator_steps

-- how many events a task or an acker has at most before a round
abbrev pub most_before : ℕ
most_before = 64

-- an engine is boosted, and then goes through a round up to the coordinator's step
pub record OpensBoosted {I : Type 0} {g : Ghosts I} (tells : I → (ℕ → ℕ) → ℕ → Type 0)
    (t : Topology) (custom : Custom) (cut : Cut) (old new : Engine I g) : Type 0 where
  pub between : Engine I g
  pub boosts : Boosts tells t custom cut most_before old between
  pub goes : Goes tells t custom cut (opening_steps t) between new

-- Each partition is shut or opened by its bit, and then an engine is boosted and goes through a round
-- up to the coordinator's step.
pub record OpensShut {I : Type 0} {g : Ghosts I} (tells : I → (ℕ → ℕ) → ℕ → Type 0)
    (t : Topology) (custom : Custom) (cut : Cut) (shut : ℕ) (old new : Engine I g) : Type 0 where
  pub between : Engine I g
  pub goes : Goes tells t custom cut (shutting_steps t.partitions shut) old between
  pub opens : OpensBoosted tells t custom cut between new

-- A source of ticks was asked again and again, and answered this.
pub record Asked {T : Type 0} (handed : T → ℕ) (ticking : T → List ℕ → Type 0)
    (answers : List ℕ) (before after : T) : Type 0 where
  pub handed_out : handed after ≡ fold handed_on (handed before) answers
  pub first : (to_come : List ℕ) → ticking before to_come
      → answers ≡ first_answers (length answers) to_come
  pub rest : (to_come : List ℕ) → ticking before to_come
      → ticking after (drop (length answers) to_come)

-- A source was asked again and again which partitions are shut, and answered this.
pub record AskedShut {V : Type 0} (availing : V → List ℕ → Type 0) (shuts : List ℕ)
    (before after : V) : Type 0 where
  pub first : (to_come : List ℕ) → availing before to_come
      → shuts ≡ first_answers (length shuts) to_come
  pub rest : (to_come : List ℕ) → availing before to_come
      → availing after (drop (length shuts) to_come)

-- Rounds came to this, each with an answer of a source of ticks and one of a source that says which
-- partitions are shut. That one may have been asked once more where memory was wanted.
pub record Rounded {I S T V : Type 0} {g : Ghosts I} (tells : I → (ℕ → ℕ) → ℕ → Type 0)
    (holds : S → CellMap → Type 0) (count : S → ℕ) (handed : T → ℕ)
    (ticking : T → List ℕ → Type 0) (availing : V → List ℕ → Type 0) (t : Topology)
    (custom : Custom) (cut : Cut) (done : Result (Unit {0}) RunFault) (old new : Engine I g)
    (was is : List (StatePart S)) (before after : T) (avail : V) : Type 0 where
  pub answers : List ℕ
  pub asked : Asked handed ticking answers before after
  pub shuts : List ℕ
  pub asked_shut : (to_come : List ℕ) → availing avail to_come
      → shuts ≡ first_answers (length shuts) to_come
  pub steps : List Step
  pub rounds : HasRoundsOf t answers shuts steps
  pub drives : OnOk done (Drives tells holds count t custom cut steps old new was is)
  pub bad : (key : List ℕ) → done ≡ Err (fault.BadCell key)
      → Breaks tells holds count t custom cut steps key old new was is
  pub failed : (txid : ℕ) → done ≡ Err (fault.Follow txid)
      → Unfollowed tells holds count t custom cut steps txid old new was is
  pub short : done ≡ Err fault.Memory
      → WantsMemory tells holds count t custom cut old new.fates was is
