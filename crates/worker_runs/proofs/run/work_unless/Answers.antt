use Rattle.worker_stretches.specs.event_engine.Engines.{cut_in}
use Rattle.worker_runs.proofs.Going.{goes-on-none}
use Rattle.worker_runs.proofs.run.work_unless.Goals as goal

pub returns-then-busy-clause-goes : goal.returns-then-busy-clause-goes
returns-then-busy-clause-goes g c = goes-on-none g.I.Ids.tells c.args.posts.now.plan.now (g.O.RowOp.meaning c.args.custom.now) (cut_in c.args.engine.now) c.args.engine.now c.args.row.now.items
