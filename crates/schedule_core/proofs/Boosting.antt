-- The steps of a boost, which are those of tasks and ackers.
use Rattle.std.proofs.Common.{ℕ, zero, suc, List, [], ◌∷◌, ◌++◌, sym, subst}
use Rattle.std.specs.Prelude.{replicate}
use Rattle.std.specs.List.{AllByRecursion}
use Rattle.event_worlds.specs.bolt_ops.RowOp.{Custom}
use Rattle.event_engine.proofs.GoesLemmas.{goes-none, goes-then}
use Rattle.event_engine.specs.Boosts.{AckerRests, Boosts, GoesUpTo, InTurn, IsBeside, TaskBoost, TaskRests}
use Rattle.event_engine.specs.declared.engine.Engine.{Engine}
use Rattle.event_engine.specs.Engines.{Goes}
use Rattle.event_engine.specs.Shutting.{shutting_steps}
use Rattle.event_worlds.proofs.counted_items.Each.{each-append}
use Rattle.event_worlds.specs.Worlds.{Step, World, of_acker, of_open, of_outcome, of_shut, of_task, of_tick, of_turn}
use Rattle.schedule_core.specs.Rounding.{OpensShut, most_before, opening_steps}
use Rattle.schedule_core.specs.Runs.{IsWork}
use Rattle.event_worlds.specs.storm_ids.declared.ids.Ids.{Ghosts}
use Rattle.event_worlds.specs.topology_plan.Topology.{Topology, tasks_in_all}
use Rattle.event_worlds.specs.taken_records.Cuts.{Cut}

work-beside : (n : ℕ) (steps : List Step) → AllByRecursion (IsBeside n) steps → AllByRecursion IsWork steps
work-beside n [] only = tt
work-beside n (of_task m ∷ steps) only = (tt, work-beside n steps only.1)
work-beside n (of_acker a ∷ steps) only = (tt, work-beside n steps only.1)
work-beside n (of_turn ∷ steps) only = absurd only.0
work-beside n (of_outcome ∷ steps) only = absurd only.0
work-beside n (of_tick ∷ steps) only = absurd only.0
work-beside n (of_shut q ∷ steps) only = absurd only.0
work-beside n (of_open q ∷ steps) only = absurd only.0

work-again : (step : Step) (k : ℕ) → IsWork step → AllByRecursion IsWork (replicate k step)
work-again step zero is = tt
work-again step (suc k) is = (is, work-again step k is)

module _ {I : Type 0} {g : Ghosts I} (tells : I → (ℕ → ℕ) → ℕ → Type 0) (t : Topology) (custom : Custom) (cut : Cut) where
  -- an engine goes through steps of tasks and ackers
  pub record GoesWorking (old new : Engine I g) : Type 0 where
    pub steps : List Step
    pub work : AllByRecursion IsWork steps
    pub goes : Goes tells t custom cut steps old new

  working-then : (a b c : Engine I g) → GoesWorking a b → GoesWorking b c → GoesWorking a c
  working-then a b c first second = record {
    steps = first.steps ++ second.steps;
    work = each-append IsWork first.steps second.steps first.work second.work;
    goes = goes-then tells t custom cut first.steps second.steps a b c first.goes second.goes;
  }

  working-up_to : (most : ℕ) (step : Step) (Rests : World → Type 0) (old new : Engine I g) → IsWork step → GoesUpTo tells t custom cut most step Rests old new → GoesWorking old new
  working-up_to most step Rests old new is up = record { steps = replicate up.count step; work = work-again step up.count is; goes = up.goes }

  -- one after another
  working-in_turn : (Does : ℕ → Engine I g → Engine I g → Type 0) → ((n : ℕ) (a b : Engine I g) → Does n a b → GoesWorking a b) → (count : ℕ) (old new : Engine I g) → InTurn Does count old new → GoesWorking old new
  working-in_turn Does each zero old new same =
      subst (λ (e : Engine I g). GoesWorking old e) (sym same) (record { steps = []; work = tt; goes = goes-none tells t custom cut old })
  working-in_turn Does each (suc count) old new turn =
      working-then old turn.0 new (working-in_turn Does each count old turn.0 turn.1) (each count turn.0 new turn.2)

  working-boosted : (most : ℕ) (old new : Engine I g) → Boosts tells t custom cut most old new → GoesWorking old new
  working-boosted most old new boosts =
      working-then old boosts.between new
      (working-in_turn (λ n was is. TaskBoost tells t custom cut most n was is)
      (λ n a b task. working-then a task.written b (record { steps = task.writes.steps; work = work-beside n task.writes.steps task.writes.only; goes = task.writes.goes }) (working-up_to most (of_task n) (TaskRests t n) task.written b tt task.events))
      (tasks_in_all t) old boosts.between boosts.tasks)
      (working-in_turn (λ n was is. GoesUpTo tells t custom cut most (of_acker n) (AckerRests n) was is) (λ n a b up. working-up_to most (of_acker n) (AckerRests n) a b tt up) t.ackers boosts.between new boosts.ackers)

  -- partitions are shut and opened, tasks and ackers have steps, and then a round is opened
  pub record OpensBehind (shut : ℕ) (old new : Engine I g) : Type 0 where
    pub events : List Step
    pub work : AllByRecursion IsWork events
    pub goes : Goes tells t custom cut ((shutting_steps t.partitions shut ++ events) ++ opening_steps t) old new

  pub opens_behind : (shut : ℕ) (old new : Engine I g) → OpensShut tells t custom cut shut old new → OpensBehind shut old new
  opens_behind shut old new opens =
      let turned : List Step = shutting_steps t.partitions shut in
      let boosted = working-boosted most_before opens.between opens.opens.between opens.opens.boosts in record {
        events = boosted.steps;
        work = boosted.work;
        goes =
            goes-then tells t custom cut (turned ++ boosted.steps) (opening_steps t) old opens.opens.between new
            (goes-then tells t custom cut turned boosted.steps old opens.between opens.opens.between opens.goes boosted.goes) opens.opens.goes;
      }
