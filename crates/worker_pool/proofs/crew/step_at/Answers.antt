use Rattle.std.proofs.Common.{rules}
use Rattle.box_rows.proofs.Weighing.{at-some}
use Rattle.worker_pool.specs.Desks.{IsTaskHeld, task_left}
use Rattle.worker_pool.proofs.Adding.{did-at}
use Rattle.worker_pool.proofs.Saying.{says-at}
use Rattle.worker_pool.proofs.crew.step_at.Goals as goal

pub returns-clause-did : goal.returns-clause-did
returns-clause-did g c =
    λ ackers. did-at g.I.Ids.tells c.args.posts.now.plan.now (g.O.RowOp.meaning c.args.custom.now) c.args.desks.now.items ackers c.args.n c.index_mut.result.now c.step.new.self c.args.row.now.items c.step.new.row.items
    (at-some c.args.desks.now.items c.args.n c.index_mut.result.now c.requires.there (search rules)) c.in_ok-did.ensures.did

pub returns-clause-says : goal.returns-clause-says
returns-clause-says g c =
    says-at task_left IsTaskHeld c.args.desks.now.items c.args.n c.index_mut.result.now c.step.new.self c.in_ok-did.did c.args.row.now.items c.step.new.row.items
    (at-some c.args.desks.now.items c.args.n c.index_mut.result.now c.requires.there (search rules)) c.in_ok-did.ensures.says
