use Rattle.track_window.specs.Jobs.{tuples_in}
use Rattle.track_window.specs.Walks.{Steps}
use Rattle.track_window.proofs.walk.Walk.settle_all.Given as goal

abbrev pub invariant-loop-job : goal.invariant-loop-job
invariant-loop-job g l = Steps l.plan (g.O.RowOp.meaning l.custom) (tuples_in l.yielded) l.fn.self l.self
