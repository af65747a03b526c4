use Rattle.std.proofs.Common.{arith}
use Rattle.worker_pool.proofs.Outboxing.{run_there}
use Rattle.worker_pool.proofs.outbox.Outbox.send.Goals as goal

pub send_at-requires-clause-there : goal.send_at-requires-clause-there
send_at-requires-clause-there g c =
    let k = run_there c.args.posts.now.plan.now c.args.run.at c.args.run.parcels c.requires.run in
    let b = c.requires.boxes in omega arith
