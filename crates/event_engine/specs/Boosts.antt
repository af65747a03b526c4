-- Many events in one call. This project's own.
use Rattle.std.specs.Prelude.{◌≡◌, ◌<◌, ◌≤◌, ℕ, zero, suc, Bool, true, false, List, [], ◌∷◌, replicate}
use Rattle.std.specs.List.{AllByRecursion}
use Rattle.event_worlds.specs.bolt_ops.RowOp.{Custom}
use Rattle.event_engine.specs.Engines.{Goes, shape, sources, topology_in}
use Rattle.event_engine.specs.declared.engine.Engine.{Engine}
use Rattle.event_worlds.specs.Worlds.{Step, World, acker_at, acker_step, is_over, of_acker, of_open, of_outcome, of_shut, of_task, of_tick, of_turn, task_at, task_needs, task_step}
use Rattle.event_worlds.specs.storm_ids.declared.ids.Ids.{Ghosts}
use Rattle.event_worlds.specs.topology_plan.Topology.{Topology, tasks_in_all}
use Rattle.event_worlds.specs.taken_records.Cuts.{Cut}

-- the numbers below one did this in turn, the first first
abbrev pub InTurn : {X : Type 0} → (ℕ → X → X → Type 0) → ℕ → X → X → Type 0
InTurn Does zero old new = new ≡ old
InTurn {X} Does (suc count) old new = (mid : X) × InTurn Does count old mid × Does count mid new

-- a task has nothing in its box and nothing to hand over
abbrev pub TaskRests : Topology → ℕ → World → Type 0
TaskRests t n w = ((task_at t n w).inbox ≡ []) × ((task_at t n w).outbox ≡ [])

-- so it is with an acker
abbrev pub AckerRests : ℕ → World → Type 0
AckerRests n w = ((acker_at n w).inbox ≡ []) × ((acker_at n w).outbox ≡ [])

-- a step is a task's own, or an acker's
abbrev pub IsBeside : ℕ → Step → Type 0
IsBeside n (of_task m) = m ≡ n
IsBeside n (of_acker a) = Unit {0}
IsBeside n of_turn = ⊥
IsBeside n of_outcome = ⊥
IsBeside n of_tick = ⊥
IsBeside n (of_shut q) = ⊥
IsBeside n (of_open q) = ⊥

-- how many steps are tasks'
abbrev pub task_steps : List Step → ℕ
task_steps [] = 0
task_steps (of_task m ∷ steps) = suc (task_steps steps)
task_steps (of_acker a ∷ steps) = task_steps steps
task_steps (of_turn ∷ steps) = task_steps steps
task_steps (of_outcome ∷ steps) = task_steps steps
task_steps (of_tick ∷ steps) = task_steps steps
task_steps (of_shut q ∷ steps) = task_steps steps
task_steps (of_open q ∷ steps) = task_steps steps

module _ {I : Type 0} {g : Ghosts I} (tells : I → (ℕ → ℕ) → ℕ → Type 0) (t : Topology)
    (custom : Custom) (cut : Cut) where
  -- An engine goes through a step again and again, so many times at most, and fewer times only
  -- where all is over or where nothing is left to do.
  pub record GoesUpTo (most : ℕ) (step : Step) (Rests : World → Type 0) (old new : Engine I g)
      : Type 0 where
    pub count : ℕ
    pub few : count ≤ most
    pub goes : Goes tells t custom cut (replicate count step) old new
    pub rests : count < most → is_over t cut (shape new) ≡ false → Rests (shape new)

  -- An engine goes through steps of a task, so many at most, and of ackers among them.
  pub record GoesBeside (most n : ℕ) (old new : Engine I g) : Type 0 where
    pub steps : List Step
    pub only : AllByRecursion (IsBeside n) steps
    pub few : task_steps steps ≤ most
    pub goes : Goes tells t custom cut steps old new

  -- A task writes what its ackers can meet at once, and then has its events.
  pub record TaskBoost (most n : ℕ) (old new : Engine I g) : Type 0 where
    pub written : Engine I g
    pub writes : GoesBeside most n old written
    pub events : GoesUpTo most (of_task n) (TaskRests t n) written new

  -- the tasks have up to so many events each, in the order of their numbers
  abbrev pub TasksBoost : ℕ → Engine I g → Engine I g → Type 0
  TasksBoost most old new = InTurn (TaskBoost most) (tasks_in_all t) old new

  -- and so do the ackers
  abbrev pub AckersBoost : ℕ → Engine I g → Engine I g → Type 0
  AckersBoost most old new =
      InTurn (λ n was is. GoesUpTo most (of_acker n) (AckerRests n) was is) t.ackers old new

  -- first the tasks, and then the ackers
  pub record Boosts (most : ℕ) (old new : Engine I g) : Type 0 where
    pub between : Engine I g
    pub tasks : TasksBoost most old between
    pub ackers : AckersBoost most between new

-- ---- one write

module _ {I : Type 0} {g : Ghosts I} where
  -- Task n executed its front tuple and handed over what an acker was told of it, and the acker met
  -- it: three steps, for which no source gave a word.
  pub record WroteTo (n : ℕ) (old new : Engine I g) : Type 0 where
    pub acker : ℕ
    pub steps : (custom : Custom) → shape new
        ≡ acker_step (topology_in old) acker (task_step (topology_in old) custom n []
        (task_step (topology_in old) custom n [] (shape old)))
    pub none : (custom : Custom) → task_needs (topology_in old) custom
        (task_at (topology_in old) n (shape old)) ≡ 0
    pub none_then : (custom : Custom) → task_needs (topology_in old) custom
        (task_at (topology_in old) n (task_step (topology_in old) custom n [] (shape old))) ≡ 0
    pub same_sources : sources new ≡ sources old

  -- that, or nothing
  abbrev pub WritesTo : ℕ → Engine I g → Engine I g → Bool → Type 0
  WritesTo n old new true = WroteTo n old new
  WritesTo n old new false = (shape new ≡ shape old) × (sources new ≡ sources old)
