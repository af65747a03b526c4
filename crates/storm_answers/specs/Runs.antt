-- What commands that run say of their files, their ticks and of want of memory.
use Rattle.std.specs.Prelude.{◌≡◌, ℕ, List, [], All}
use Rattle.event_worlds.specs.attempt_fates.declared.fates.Attempt.{Attempt}
use Rattle.event_worlds.specs.attempt_fates.Fates.{IsOnce}
use Rattle.event_worlds.specs.bolt_ops.RowOp.{Custom}
use Rattle.event_worlds.specs.commit_turns.Turns.{last_tick}
use Rattle.event_worlds.specs.Rounds.{CanFinish, DoesNotCoincide}
use Rattle.schedule_core.specs.Runs.{ticks_between}
use Rattle.storm_answers.specs.Files.{AreAccepted}
use Rattle.storm_answers.specs.Outside.{RunUse, TicksUse}
use Rattle.storm_answers.specs.Reports.{cut_by}
use Rattle.event_worlds.specs.storm_values.Counts.{Rose}
use Rattle.event_worlds.specs.storm_values.declared.value.Value.{Value}
use Rattle.stored_runs.specs.Makers.{BeganEmpty, CameBack, IsUntouched, MakerUse}
use Rattle.stored_runs.specs.StoredRuns.{StandsWithoutMemory}
use Rattle.event_worlds.specs.topology_plan.Topology.{Topology}

-- how many ticks were handed out in a run

abbrev pub ticks_of_run : TicksUse → ℕ
ticks_of_run ticks = ticks_between ticks.before ticks.after

-- the files of these names were accepted, and what they say comes to this
pub record IsOfFiles (holds : List ℕ → List ℕ → Type 0) (topology input : List ℕ)
    (Comes : Topology → List (List Value) → Type 0) : Type 0 where
  pub plan : Topology
  pub records : List (List Value)
  pub accepted : AreAccepted holds topology input plan records
  pub comes : Comes plan records

-- A run of a plan and the records of its input that ended without memory: no batch was committed
-- twice, the stores came back, and over stores that began empty they stand at the batches that were
-- committed.
pub record IsShort (custom : Custom) (plan : Topology) (records : List (List Value)) (base : RunUse)
    (fates : List Attempt) : Type 0 where
  pub once : IsOnce (cut_by plan records) last_tick fates
  pub back : CameBack plan base.stores
  pub stands : StandsWithoutMemory plan custom (cut_by plan records) base.stores fates

-- no attempt was begun, and the stores were left alone
abbrev pub IsNotBegun : RunUse → List Attempt → Type 0
IsNotBegun base fates = (fates ≡ []) × IsUntouched base.stores

-- Nothing is in the way of a run from the first transaction on: the stores began empty, no store
-- failed, by a count that ends at 2^64 - 1, each bolt lets batches through within the attempts of
-- the plan, and no attempt ended because its ids coincide.
pub record IsUnhindered (plan : Topology) (stores : MakerUse) (fates : List Attempt) : Type 0 where
  pub began_empty : BeganEmpty plan stores
  pub no_fault : Rose stores.faults_before stores.faults_after → ⊥
  pub can_finish : CanFinish plan
  pub no_coincidence : All DoesNotCoincide fates
