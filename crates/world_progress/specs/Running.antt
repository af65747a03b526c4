-- What a run of steps adds to what happened. This project's own.
use Rattle.std.specs.Prelude.{ℕ, List, [], ◌∷◌}
use Rattle.event_worlds.specs.bolt_ops.RowOp.{Custom}
use Rattle.event_worlds.specs.Added.{added}
use Rattle.event_worlds.specs.Worlds.{Known, Step, next}
use Rattle.event_worlds.specs.state_parts.declared.answer.CommitOutcome.{CommitOutcome}
use Rattle.event_worlds.specs.topology_plan.Topology.{Topology}
use Rattle.event_worlds.specs.taken_records.Cuts.{Cut}
use Rattle.event_worlds.specs.tuple_account.Histories.{History, joined}

module _ (t : Topology) (custom : Custom) (cut : Cut) (words : ℕ → ℕ → ℕ)
    (outcomes : List CommitOutcome) where
  -- what happened, where this happened before the steps
  abbrev pub so_far : List Step → History → Known → History
  so_far [] h k = h
  so_far (s ∷ steps) h k =
      so_far steps (joined h (added t custom cut words s k))
      (next t custom cut words outcomes s k)
