use Rattle.std.proofs.Common.{rules}
use Rattle.worker_pool.specs.Workers.{Stretched}
use Rattle.worker_pool.proofs.Lists.{zipped}
use Rattle.worker_pool.proofs.worker.stretch_all.Goals as goal

pub returns : goal.returns
returns g c =
    zipped (Stretched g.I.Ids.tells c.args.posts.now.plan.now c.args.posts.now.boxes.items c.args.board.now (g.O.RowOp.meaning c.args.custom.now)) c.args.workers.now c.for_each_mut.new.s (search rules)
    (λ i d below. let k = (c.for_each_mut.ensures i d below).1 in search rules)
