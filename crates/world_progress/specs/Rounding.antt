-- What steps come to where nothing is lost, and what whole rounds add. This project's own.
use Rattle.std.specs.Prelude.{◌≡◌, ◌≤◌, ◌<◌, ◌⊎◌, ◌+◌, ℕ, true}
use Rattle.event_worlds.specs.bolt_ops.RowOp.{Custom}
use Rattle.event_worlds.specs.Worlds.{Known, Step, World, is_over, of_acker, of_open, of_outcome, of_shut, of_task, of_tick, of_turn}
use Rattle.event_worlds.specs.topology_plan.Topology.{Topology}
use Rattle.event_worlds.specs.taken_records.Cuts.{Cut}
use Rattle.event_worlds.specs.tuple_account.Histories.{History}
use Rattle.world_progress.specs.Doing.{done}
use Rattle.world_progress.specs.Lasting.{Lasting}

-- no partition is shut, where there are some
abbrev pub IsOpen : Cut → World → Type 0
IsOpen cut w = 0 < cut.partitions → w.shut ≡ 0

-- a step shuts no partition
abbrev pub ShutsNone : Step → Type 0
ShutsNone (of_task n) = Unit {0}
ShutsNone (of_acker n) = Unit {0}
ShutsNone of_turn = Unit {0}
ShutsNone of_outcome = Unit {0}
ShutsNone of_tick = Unit {0}
ShutsNone (of_shut q) = ⊥
ShutsNone (of_open q) = Unit {0}

-- From a world another came, so many ticks later at most: nothing is lost in it, and no less was
-- done.
pub record LastsOn (t : Topology) (custom : Custom) (cut : Cut) (words : ℕ → ℕ → ℕ) (ticks : ℕ)
    (h : History) (k : Known) (later : History) (new : Known) : Type 0 where
  pub last : Lasting t custom cut words later new
  pub more : done h k.world ≤ done later new.world
  pub tick : new.world.tick ≤ k.world.tick + ticks

-- all is over in it, or more was done
abbrev pub DoesMore : Topology → Cut → History → Known → History → Known → Type 0
DoesMore t cut h k later new =
    (is_over t cut new.world ≡ true) ⊎ (done h k.world < done later new.world)
