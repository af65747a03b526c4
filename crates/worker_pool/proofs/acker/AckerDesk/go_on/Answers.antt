use Rattle.std.proofs.Common.{rules, ◌≡◌, ◌∷◌, length, suc, refl, ap, arith, ◌∙◌}
use Rattle.worker_pool.proofs.Acking.{acker_after, acker_says_after, message_met, says_met}
use Rattle.worker_pool.proofs.Desking.{if_gives, ok_gives}
use Rattle.worker_pool.proofs.acker.AckerDesk.go_on.Goals as goal

pub returns-in_ok-self-in-Some-clause-did : goal.returns-in_ok-self-in-Some-clause-did
returns-in_ok-self-in-Some-clause-did g c =
    let front : c.args.self.now.inbox.items ≡ c.in-Some.message ∷ c.pop_front.new.self.items = search rules in
    message_met c.args.posts.now.plan.now c.in-Some.message c.args.self.now _ c.pop_front.new.self.items c.args.row.now.items
    c.requires.no_verdict front refl (search rules) (search rules) refl refl

pub returns-in_ok-self-in-Some-clause-says : goal.returns-in_ok-self-in-Some-clause-says
returns-in_ok-self-in-Some-clause-says g c =
    let front : c.args.self.now.inbox.items ≡ c.in-Some.message ∷ c.pop_front.new.self.items = search rules in
    says_met c.args.posts.now.plan.now c.args.self.now _ c.args.row.now.items (ap length front ∙ (let e : length (c.in-Some.message ∷ c.pop_front.new.self.items) ≡ suc (length c.pop_front.new.self.items) = omega arith in e))

pub returns-in-None-clause-did : goal.returns-in-None-clause-did
returns-in-None-clause-did g c =
    let none : c.pop_front.new.self.items ≡ c.args.self.now.inbox.items = search rules in
    ok_gives c.take.result
    (acker_after c.args.posts.now.plan.now c.args.self.now (record c.args.self.now { inbox = c.pop_front.new.self }) c.take.new.self c.args.row.now.items c.take.new.row.items refl refl refl refl none)
    c.take.ensures.did

pub returns-in-None-clause-says : goal.returns-in-None-clause-says
returns-in-None-clause-says g c =
    let none : c.pop_front.new.self.items ≡ c.args.self.now.inbox.items = search rules in
    if_gives c.take.result
    (λ did says. acker_says_after c.args.posts.now.plan.now did c.args.self.now (record c.args.self.now { inbox = c.pop_front.new.self }) c.take.new.self c.args.row.now.items c.take.new.row.items none says)
    c.take.ensures.says
