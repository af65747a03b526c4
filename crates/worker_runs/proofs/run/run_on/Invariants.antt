use Rattle.worker_rounds.proofs.schedule_core.Following.{SoFar}
use Rattle.worker_stretches.specs.event_engine.Engines.{cut_in}
use Rattle.worker_runs.proofs.Looping.{Turning}
use Rattle.worker_runs.proofs.run.run_on.Given as goal

abbrev pub invariant-loop : goal.invariant-loop
invariant-loop g l = record {
  turning : Turning g.I.Ids.tells g.C.CellStore.tells g.C.CellStore.fault_count g.T.Ticks.handed_out g.T.Ticks.tells g.V.Avail.tells l.posts.plan.now (g.O.RowOp.meaning l.custom) (cut_in l.fn.engine) l.fn.avail l.posts.boxes.items l.board
      l.fn.engine l.engine l.fn.row.items l.row.items l.seat l.fn.parts l.parts l.fn.ticks l.ticks l.avail;
  told : SoFar g.W.Follow.tells g.W.Follow.takes g.W.Follow.fault_count l.fn.engine l.engine l.fn.follow l.follow;
}
