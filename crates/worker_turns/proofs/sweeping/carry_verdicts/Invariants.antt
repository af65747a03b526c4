use Rattle.std.proofs.Common.{length}
use Rattle.worker_stretches.specs.event_engine.Engines.{cut_in}
use Rattle.worker_turns.specs.Carrying.{weigh_verdicts}
use Rattle.worker_turns.proofs.Sweeps.{Carrying}
use Rattle.worker_turns.proofs.sweeping.carry_verdicts.Given as goal

abbrev pub invariant-loop-verdict : goal.invariant-loop-verdict
invariant-loop-verdict g l = Carrying l.posts.plan.now (cut_in l.fn.engine) l.posts.boxes.items l.fn.engine l.engine l.fn.row.items l.row.items (weigh_verdicts l.fn.verdicts.items) (weigh_verdicts l.left.items)

abbrev pub decreases-loop-verdict : goal.decreases-loop-verdict
decreases-loop-verdict g l = length l.left.items
