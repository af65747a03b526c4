use Rattle.worker_stretches.specs.event_engine.Engines.{cut_in}
use Rattle.worker_turns.proofs.Sweeps.{GatheringAll}
use Rattle.worker_turns.proofs.sweeping.gather_boxes.Given as goal

abbrev pub invariant-loop-at : goal.invariant-loop-at
invariant-loop-at g l = GatheringAll l.posts.plan.now (cut_in l.fn.engine) l.posts.boxes.items l.at l.fn.engine l.engine l.fn.row.items l.row.items
