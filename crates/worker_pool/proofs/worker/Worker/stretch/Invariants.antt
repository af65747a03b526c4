use Rattle.std.proofs.Common.{◌≡◌, false}
use Rattle.worker_pool.proofs.Boarding.{Going}
use Rattle.worker_pool.proofs.worker.Worker.stretch.Given as goal

abbrev pub invariant-loop-done : goal.invariant-loop-done
invariant-loop-done g l = record {
  going : Going g.I.Ids.tells l.posts.plan.now l.posts.boxes.items l.board (g.O.RowOp.meaning l.custom) l.done l.fn.self l.self;
  turns : l.self.turns ≡ l.done;
  wants : l.self.wants ≡ false;
}
