-- Many events in one call, one after another.
use Rattle.std.proofs.Common.{◌≡◌, ◌<◌, ◌≤◌, ℕ, zero, suc, ◌+◌, true, false, true≢false, [], ◌∷◌, length, sym, refl, ap, subst, ◌∙◌, arith}
use Rattle.std.specs.Prelude.{replicate}
use Rattle.std.proofs.lemmas.List.{length-map, replicate-append-replicate}
use Rattle.event_worlds.specs.bolt_ops.RowOp.{Custom, IsCustom}
use Rattle.event_engine.specs.Boosts.{AckerRests, AckersBoost, Boosts, GoesUpTo, InTurn, TaskBoost, TaskRests, TasksBoost}
use Rattle.event_engine.specs.Engines.{Goes, Happens, IsReady, IsSeated, IsStill, cut_in, has_ended, shape, sources, topology_in}
use Rattle.event_engine.specs.Seats.{acker_side, task_side}
use Rattle.event_engine.specs.declared.engine.Engine.{Engine}
use Rattle.event_engine.proofs.EngineLemmas.{acker_ready, task_ready}
use Rattle.event_engine.proofs.GoesLemmas.{goes-acker, goes-none, goes-task, goes-then}
use Rattle.event_engine.proofs.WriteLemmas.{beside-none}
use Rattle.event_engine.proofs.LoopLemmas.{goes_there, ready_here, ready_there}
use Rattle.event_worlds.specs.Worlds.{Step, World, acker_step, is_over, of_acker, of_task, task_at, task_needs, task_step}
use Rattle.event_worlds.specs.storm_ids.declared.ids.Ids.{Ghosts}
use Rattle.event_worlds.specs.topology_plan.Topology.{Topology, tasks_in_all}
use Rattle.event_worlds.specs.taken_records.Cuts.{Cut}

-- ---- one more

-- the next number did it too
pub turn-more : {X : Type 0} (Does : ℕ → X → X → Type 0) (n : ℕ) (old mid new : X) → InTurn Does n old mid → Does n mid new → InTurn Does (n + 1) old new
turn-more Does n old mid new first next =
    let one : suc n ≡ n + 1 = omega arith in subst (λ (k : ℕ). InTurn Does k old new) one (mid, first, next)

-- where all goes on, so it does while the coordinator is as it was
pub goes_on_still : {I : Type 0} {g : Ghosts I} (old new : Engine I g) → IsStill old new → has_ended old ≡ false → has_ended new ≡ false
goes_on_still old new still on =
    let same : has_ended new ≡ has_ended old = ap (λ c. has_ended (record old { coordinator = c })) still.coordinator in same ∙ on

module _ {I : Type 0} {g : Ghosts I} (tells : I → (ℕ → ℕ) → ℕ → Type 0) (t : Topology) (custom : Custom) (cut : Cut) where
  -- one more step of the kind
  goes-again : (step : Step) (k : ℕ) (old mid new : Engine I g) → Goes tells t custom cut (replicate k step) old mid → Goes tells t custom cut (step ∷ []) mid new → Goes tells t custom cut (replicate (k + 1) step) old new
  goes-again step k old mid new goes next = rw (← replicate-append-replicate k 1 step) (goes-then tells t custom cut (replicate k step) (step ∷ []) old mid new goes next)

  -- all times that were allowed
  pub up_to_all : (most k : ℕ) (step : Step) (Rests : World → Type 0) (old new : Engine I g) → k ≡ most → Goes tells t custom cut (replicate k step) old new → GoesUpTo tells t custom cut most step Rests old new
  up_to_all most k step Rests old new all goes = record { count = k; few = omega arith; goes = goes; rests = λ few on. absurd (omega arith) }

  -- or as many as there was something to do
  pub up_to_rest : (most k : ℕ) (step : Step) (Rests : World → Type 0) (old new : Engine I g) → k ≤ most → Rests (shape new) → Goes tells t custom cut (replicate k step) old new → GoesUpTo tells t custom cut most step Rests old new
  up_to_rest most k step Rests old new few rests goes = record { count = k; few = few; goes = goes; rests = λ fewer on. rests }

  -- where all is over nothing is done
  up_to_over : (most : ℕ) (step : Step) (Rests : World → Type 0) (e : Engine I g) → is_over t cut (shape e) ≡ true → GoesUpTo tells t custom cut most step Rests e e
  up_to_over most step Rests e over = record { count = 0; few = omega arith; goes = goes-none tells t custom cut e; rests = λ few on. absurd (true≢false (sym over ∙ on)) }

  pub boosts_over : (most : ℕ) (e : Engine I g) → is_over t cut (shape e) ≡ true → Boosts tells t custom cut most e e
  boosts_over most e over = record {
    between = e;
    tasks = each (λ n was is. TaskBoost tells t custom cut most n was is) (λ n. record { written = e; writes = beside-none tells t custom cut n most e; events = up_to_over most (of_task n) (TaskRests t n) e over }) (tasks_in_all t);
    ackers = each (λ n was is. GoesUpTo tells t custom cut most (of_acker n) (AckerRests n) was is) (λ n. up_to_over most (of_acker n) (AckerRests n) e over) t.ackers;
  }
    where
      each : (Does : ℕ → Engine I g → Engine I g → Type 0) → ((n : ℕ) → Does n e e) → (count : ℕ) → InTurn Does count e e
      each Does does zero = refl
      each Does does (suc count) = (e, each Does does count, does count)

-- ---- what is so for a later engine's plan and input

module _ {I : Type 0} {g : Ghosts I} (tells : I → (ℕ → ℕ) → ℕ → Type 0) (t : Topology) (cut : Cut) (mid new : Engine I g) (ready : IsReady t cut mid) (custom : Custom) where
  pub up_to_there : (most : ℕ) (step : Step) (Rests : Topology → World → Type 0) → GoesUpTo tells (topology_in mid) custom (cut_in mid) most step (Rests (topology_in mid)) mid new → GoesUpTo tells t custom cut most step (Rests t) mid new
  up_to_there most step Rests own =
      subst (λ (u : Topology). GoesUpTo tells u custom cut most step (Rests u) mid new) ready.seated.of_topology
      (subst (λ (k : Cut). GoesUpTo tells (topology_in mid) custom k most step (Rests (topology_in mid)) mid new) ready.seated.of_cut own)

  -- the tasks, and then the ackers
  pub boosts_then : (most : ℕ) (old : Engine I g) → TasksBoost tells t custom cut most old mid → AckersBoost tells (topology_in mid) custom (cut_in mid) most mid new → Boosts tells t custom cut most old new
  boosts_then most old tasks ackers = record {
    between = mid;
    tasks = tasks;
    ackers =
        subst (λ (u : Topology). AckersBoost tells u custom cut most mid new) ready.seated.of_topology
        (subst (λ (k : Cut). AckersBoost tells (topology_in mid) custom k most mid new) ready.seated.of_cut ackers);
  }

-- ---- numbers of tasks and of ackers

module _ {I : Type 0} {g : Ghosts I} (t : Topology) (cut : Cut) (e : Engine I g) (ready : IsReady t cut e) (n : ℕ) where
  -- a task of the topology has a seat
  pub task_here : n < tasks_in_all t → n < length e.tasks.items
  task_here there =
      let many : length e.tasks.items ≡ tasks_in_all t = sym (length-map e.tasks.items (task_side {I = I} {g = g})) ∙ ready.orderly.task_count in omega arith

  -- so has an acker
  pub acker_here : n < t.ackers → n < length e.ackers.items
  acker_here there =
      let many : length e.ackers.items ≡ t.ackers = sym (length-map e.ackers.items acker_side) ∙ ready.orderly.acker_count in omega arith

  pub task_of_its_own : n < tasks_in_all t → n < tasks_in_all (topology_in e)
  task_of_its_own there = subst (λ (u : Topology). n < tasks_in_all u) (sym ready.seated.of_topology) there

  pub acker_of_its_own : n < t.ackers → n < (topology_in e).ackers
  acker_of_its_own there = subst (λ (u : Topology). n < u.ackers) (sym ready.seated.of_topology) there

-- ---- one event more of a task or of an acker

module _ {I : Type 0} {g : Ghosts I} (tells : I → (ℕ → ℕ) → ℕ → Type 0) (t : Topology) (cut : Cut) (old mid new : Engine I g) (ready : IsReady t cut mid) (still : IsStill old mid) (on : has_ended old ≡ false) (next : IsStill mid new) where
  module _ (custom : Custom) (n : ℕ) (happens : Happens tells n (task_needs (topology_in mid) custom (task_at (topology_in mid) n (shape mid))) (λ ids w. task_step (topology_in mid) custom n ids w) mid new) where
    pub task_again : (k : ℕ) → Goes tells t custom cut (replicate k (of_task n)) old mid → Goes tells t custom cut (replicate (k + 1) (of_task n)) old new
    task_again k goes =
        goes-again tells t custom cut (of_task n) k old mid new goes
        (goes_there t cut mid ready tells custom (of_task n ∷ []) new (goes-task tells (topology_in mid) custom (cut_in mid) mid new (goes_on_still old mid still on) n happens))

    pub task_ready_again : IsCustom custom → n < tasks_in_all t → IsSeated (topology_in mid) (cut_in mid) new → IsReady t cut new
    task_ready_again keeps there seated =
        ready_there t cut mid ready new
        (task_ready tells (topology_in mid) custom n (cut_in mid) mid new keeps (task_of_its_own t cut mid ready n there) (ready_here t cut mid ready) next seated happens)

  module _ (n : ℕ) (happens : shape new ≡ acker_step (topology_in mid) n (shape mid)) where
    pub acker_again : (custom : Custom) (k : ℕ) → sources new ≡ sources mid → Goes tells t custom cut (replicate k (of_acker n)) old mid → Goes tells t custom cut (replicate (k + 1) (of_acker n)) old new
    acker_again custom k same goes =
        goes-again tells t custom cut (of_acker n) k old mid new goes
        (goes_there t cut mid ready tells custom (of_acker n ∷ []) new (goes-acker tells (topology_in mid) custom (cut_in mid) mid new (goes_on_still old mid still on) n happens same))

    pub acker_ready_again : IsSeated (topology_in mid) (cut_in mid) new → IsReady t cut new
    acker_ready_again seated =
        ready_there t cut mid ready new (acker_ready (topology_in mid) (cut_in mid) mid new n (ready_here t cut mid ready) next seated happens)
