-- The laws of worlds that rounds between stretches rest on. This project's own.
use Rattle.std.specs.Prelude.{◌≡◌, ◌<◌, ◌+◌, ℕ, List, All}
use Rattle.event_worlds.specs.bolt_ops.RowOp.{Custom, IsCustom}
use Rattle.worker_stretches.specs.box_account.Hearing.{HeardBeforeFailing}
use Rattle.event_worlds.specs.commit_turns.Outcomes.{IsOutcome}
use Rattle.event_worlds.specs.Accounted.{IsInput, LedTo}
use Rattle.event_worlds.specs.Added.{added}
use Rattle.event_worlds.specs.Rounds.{CanFinish, round_with, ticks_in}
use Rattle.event_worlds.specs.Worlds.{Known, Step, next, run}
use Rattle.event_worlds.specs.state_parts.declared.answer.CommitOutcome.{CommitOutcome}
use Rattle.event_worlds.specs.state_parts.declared.answer.CommitOutcome.TheVariants.{Done}
use Rattle.event_worlds.specs.topology_plan.Topology.{Topology}
use Rattle.event_worlds.specs.taken_records.Cuts.{Cut}
use Rattle.event_worlds.specs.tuple_account.Histories.{History, joined}
use Rattle.worker_stretches.specs.world_progress.Lasting.{Lasting}
use Rattle.worker_stretches.specs.world_progress.Rounding.{DoesMore, IsOpen, LastsOn}
use Rattle.worker_stretches.specs.world_progress.Running.{so_far}

-- What rounds rest on: each step leads on, and a verdict is heard before a commit fails; nothing is
-- lost by steps, and a round does something.
pub record RoundLaws (t : Topology) (custom : Custom) (cut : Cut) : Type 0 where
  pub leads : (words : ℕ → ℕ → ℕ) (outcomes : List CommitOutcome) (s : Step) (h : History)
      (k : Known) → IsInput t cut → IsCustom custom → All (IsOutcome t) outcomes
      → LedTo t custom cut words h k
      → LedTo t custom cut words (joined h (added t custom cut words s k))
      (next t custom cut words outcomes s k)
  pub hears : (words : ℕ → ℕ → ℕ) (outcomes : List CommitOutcome) (s : Step) (h : History)
      (k : Known) → LedTo t custom cut words h k → HeardBeforeFailing h k.world.fates
      → HeardBeforeFailing (joined h (added t custom cut words s k))
      (next t custom cut words outcomes s k).world.fates
  pub lasts : (words : ℕ → ℕ → ℕ) (outcomes : List CommitOutcome) (steps : List Step)
      (h : History) (k : Known) → IsInput t cut → IsCustom custom
      → All (λ (how : CommitOutcome). how ≡ Done) outcomes → Lasting t custom cut words h k
      → k.world.tick + ticks_in steps < t.buckets
      → LastsOn t custom cut words (ticks_in steps) h k
      (so_far t custom cut words outcomes steps h k)
      (run t custom cut words outcomes steps k)
  pub does : (words : ℕ → ℕ → ℕ) (outcomes : List CommitOutcome) (ticks : ℕ) (h : History)
      (k : Known) → IsInput t cut → IsCustom custom → CanFinish t
      → All (λ (how : CommitOutcome). how ≡ Done) outcomes → Lasting t custom cut words h k
      → k.world.tick + ticks < t.buckets
      → LastsOn t custom cut words ticks h k
      (so_far t custom cut words outcomes (round_with t ticks) h k)
      (run t custom cut words outcomes (round_with t ticks) k)
      × (IsOpen cut k.world
      → DoesMore t cut h k (so_far t custom cut words outcomes (round_with t ticks) h k)
      (run t custom cut words outcomes (round_with t ticks) k))
