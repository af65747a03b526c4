use Rattle.worker_stretches.specs.box_rows.FitRows.{held_in}
use Rattle.worker_stretches.specs.event_engine.Engines.{cut_in}
use Rattle.event_worlds.specs.tuple_account.Histories.{Packet}
use Rattle.worker_turns.proofs.Sweeps.{Gathering}
use Rattle.worker_turns.proofs.sweeping.gather_box.Given as goal

abbrev pub invariant-loop-mail : goal.invariant-loop-mail
invariant-loop-mail g l = Gathering l.posts.plan.now (cut_in l.fn.engine) l.posts.boxes.items l.at l.fn.engine l.engine l.fn.row.items l.row.items

abbrev pub decreases-loop-mail : goal.decreases-loop-mail
decreases-loop-mail g l = held_in l.row.items (λ (p : Packet). 1)
