use Rattle.std.proofs.Common.{◌≡◌, false}
use Rattle.worker_pool.specs.Workers.{Did, IsAtWork, Keeps, Turned}
use Rattle.worker_pool.proofs.worker.Worker.busy_turn.Given as goal

abbrev pub invariant-loop : goal.invariant-loop
invariant-loop g l = record {
  work : IsAtWork l.posts.plan.now l.posts.boxes.items l.board l.self;
  keeps : Keeps l.posts.plan.now l.posts.boxes.items l.board l.fn.self l.self;
  did : Did g.I.Ids.tells l.posts.plan.now (g.O.RowOp.meaning l.custom) l.fn.self l.self;
  turned : Turned l.posts.plan.now false l.fn.self l.self;
  wants : l.self.wants ≡ l.fn.self.wants;
  turns : l.self.turns ≡ l.fn.self.turns;
}
