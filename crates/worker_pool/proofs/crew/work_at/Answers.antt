use Rattle.std.proofs.Common.{rules, true, ◌≡◌, [], subst, arith}
use Rattle.worker_pool.specs.Crews.{TaskSaysAt}
use Rattle.worker_pool.specs.Desks.{IsTaskHeld, task_left}
use Rattle.worker_pool.proofs.Adding.{did-then}
use Rattle.worker_pool.proofs.Saying.{says-more}
use Rattle.worker_pool.proofs.crew.work_at.Goals as goal

pub returns-clause-did : goal.returns-clause-did
returns-clause-did g c =
    λ ackers. did-then g.I.Ids.tells c.args.posts.now.plan.now (g.O.RowOp.meaning c.args.custom.now) c.args.desks.now.items c.step_at.new.desks.items c.go_on_at.new.desks.items ackers ackers ackers
    c.args.row.now.items c.step_at.new.row.items c.go_on_at.new.row.items (c.in_ok-did.ensures.did ackers) (c.in_ok-go_on_at.ensures.did ackers)

pub returns-clause-says : goal.returns-clause-says
returns-clause-says g c =
    let done : c.in_ok-did.did ≡ true = search rules in
    says-more task_left IsTaskHeld c.args.n c.args.desks.now.items c.step_at.new.desks.items c.go_on_at.new.desks.items c.args.row.now.items c.step_at.new.row.items c.go_on_at.new.row.items
    (subst (λ b. TaskSaysAt c.args.n b c.args.desks.now.items c.step_at.new.desks.items c.args.row.now.items c.step_at.new.row.items) done c.in_ok-did.ensures.says) c.in_ok-go_on_at.ensures.more

pub go_on_at-requires-clause-there : goal.go_on_at-requires-clause-there
go_on_at-requires-clause-there g c = let many = (c.in_ok-did.ensures.did []).many in let there = c.requires.there in omega arith
