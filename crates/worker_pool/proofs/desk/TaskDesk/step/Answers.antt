use Rattle.std.proofs.Common.{rules, ◌≡◌, ◌∷◌, refl, ap}
use Rattle.worker_pool.specs.Desks.{IsDesk}
use Rattle.worker_pool.proofs.Desking.{both_ok, desk_moved, desk_ran, if_gives, mail_after, mail_handed, ok_from, ok_gives, says_after, says_handed, says_ran}
use Rattle.worker_pool.proofs.desk.TaskDesk.step.Goals as goal

pub returns-then-is_filled-clause-did : goal.returns-then-is_filled-clause-did
returns-then-is_filled-clause-did g c =
    ok_from c.hand_over.result
    (λ did handed. desk_moved g.I.Ids.tells c.args.posts.now.plan.now (g.O.RowOp.meaning c.args.custom.now) c.args.self.now (record c.args.self.now { outbox = c.hand_over.new.self }) c.args.row.now.items c.hand_over.new.row.items
    (mail_handed did c.args.self.now (record c.args.self.now { outbox = c.hand_over.new.self }) c.args.row.now.items c.hand_over.new.row.items refl refl refl handed))
    c.hand_over.ensures.handed

pub returns-then-is_filled-clause-says : goal.returns-then-is_filled-clause-says
returns-then-is_filled-clause-says g c =
    if_gives c.hand_over.result
    (λ did handed. says_handed did c.args.self.now (record c.args.self.now { outbox = c.hand_over.new.self }) c.args.row.now.items c.hand_over.new.row.items (search rules) refl handed)
    c.hand_over.ensures.handed

pub returns-in-Some-clause-did : goal.returns-in-Some-clause-did
returns-in-Some-clause-did g c =
    let front : c.args.self.now.inbox.items ≡ c.in-Some.tuple ∷ c.pop_front.new.self.items = search rules in
    let desk : IsDesk c.args.posts.now.plan.now (record c.args.self.now { inbox = c.pop_front.new.self }) = search rules in
    ok_gives c.execute.result
    (desk_ran g.I.Ids.tells c.args.posts.now.plan.now (g.O.RowOp.meaning c.args.custom.now) c.in-Some.tuple c.args.self.now (record c.args.self.now { inbox = c.pop_front.new.self }) c.execute.new.self c.args.row.now.items desk front refl refl refl)
    c.execute.ensures.runs

pub returns-in-Some-clause-says : goal.returns-in-Some-clause-says
returns-in-Some-clause-says g c =
    let front : c.args.self.now.inbox.items ≡ c.in-Some.tuple ∷ c.pop_front.new.self.items = search rules in
    both_ok c.execute.result
    (λ did runs yes. says_ran c.in-Some.tuple c.pop_front.new.self.items did c.args.self.now c.execute.new.self c.args.row.now.items front (ap (λ b. b.items) runs.inbox) yes)
    c.execute.ensures.runs c.execute.ensures.did

pub returns-in-None-clause-did : goal.returns-in-None-clause-did
returns-in-None-clause-did g c =
    let none : c.pop_front.new.self.items ≡ c.args.self.now.inbox.items = search rules in
    ok_gives c.go_on.result
    (λ moves. desk_moved g.I.Ids.tells c.args.posts.now.plan.now (g.O.RowOp.meaning c.args.custom.now) c.args.self.now c.go_on.new.self c.args.row.now.items c.go_on.new.row.items
    (mail_after c.args.self.now (record c.args.self.now { inbox = c.pop_front.new.self }) c.go_on.new.self c.args.row.now.items c.go_on.new.row.items refl refl refl none moves))
    c.go_on.ensures.moves

pub returns-in-None-clause-says : goal.returns-in-None-clause-says
returns-in-None-clause-says g c =
    let none : c.pop_front.new.self.items ≡ c.args.self.now.inbox.items = search rules in
    if_gives c.go_on.result
    (λ did says. says_after did c.args.self.now (record c.args.self.now { inbox = c.pop_front.new.self }) c.go_on.new.self c.args.row.now.items c.go_on.new.row.items none says)
    c.go_on.ensures.says
