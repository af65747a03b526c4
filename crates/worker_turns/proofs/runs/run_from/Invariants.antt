use Rattle.std.proofs.Common.{◌-◌, ◌∷◌, length}
use Rattle.worker_turns.proofs.Handing.{RunsOn}
use Rattle.worker_turns.proofs.runs.run_from.Given as goal

abbrev pub invariant-loop-left : goal.invariant-loop-left
invariant-loop-left l = RunsOn l.plan l.at (l.fn.first ∷ l.fn.left.items) l.made l.left.items

abbrev pub decreases-loop-left : goal.decreases-loop-left
decreases-loop-left l = 64 - length l.made
