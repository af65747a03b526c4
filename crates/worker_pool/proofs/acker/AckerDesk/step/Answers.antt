use Rattle.std.proofs.Common.{rules, refl}
use Rattle.worker_pool.proofs.Acking.{acker_after, acker_says_after, says_verdict, verdict_handed}
use Rattle.worker_pool.proofs.Desking.{if_gives, ok_gives}
use Rattle.worker_pool.proofs.acker.AckerDesk.step.Goals as goal

pub returns-in-Some-clause-did : goal.returns-in-Some-clause-did
returns-in-Some-clause-did g c =
    verdict_handed c.args.posts.now.plan.now c.in-Some.verdict c.args.self.now (record c.args.self.now { outbox = c.take.new.self }) c.hand_over.new.self c.args.row.now.items c.hand_over.new.row.items
    (search rules) refl refl refl refl c.hand_over.result c.hand_over.ensures.handed

pub returns-in-Some-clause-says : goal.returns-in-Some-clause-says
returns-in-Some-clause-says g c =
    says_verdict c.args.posts.now.plan.now c.in-Some.verdict c.hand_over.result c.args.self.now (record c.args.self.now { outbox = c.take.new.self }) c.hand_over.new.self c.args.row.now.items c.hand_over.new.row.items
    (search rules) refl c.hand_over.ensures.handed

pub returns-in-None-clause-did : goal.returns-in-None-clause-did
returns-in-None-clause-did g c =
    ok_gives c.go_on.result
    (acker_after c.args.posts.now.plan.now c.args.self.now (record c.args.self.now { outbox = c.take.new.self }) c.go_on.new.self c.args.row.now.items c.go_on.new.row.items refl refl (search rules) refl refl)
    c.go_on.ensures.did

pub returns-in-None-clause-says : goal.returns-in-None-clause-says
returns-in-None-clause-says g c =
    if_gives c.go_on.result
    (λ did says. acker_says_after c.args.posts.now.plan.now did c.args.self.now (record c.args.self.now { outbox = c.take.new.self }) c.go_on.new.self c.args.row.now.items c.go_on.new.row.items refl says)
    c.go_on.ensures.says
