use Rattle.std.proofs.Common.{rules, true, ◌≡◌, subst}
use Rattle.worker_pool.specs.Ackers.{IsAckerHeld, acker_left}
use Rattle.worker_pool.specs.Crews.{AckerSaysAt}
use Rattle.worker_pool.proofs.Adding.{ackers-then}
use Rattle.worker_pool.proofs.Saying.{says-more}
use Rattle.worker_pool.proofs.crew.meet_at.Goals as goal

pub returns-clause-did : goal.returns-clause-did
returns-clause-did g c =
    ackers-then c.args.posts.now.plan.now c.args.ackers.now.items c.note_at.new.ackers.items c.keep_on_at.new.ackers.items
    c.args.row.now.items c.note_at.new.row.items c.keep_on_at.new.row.items c.in_ok-did.ensures.did c.in_ok-keep_on_at.ensures.did

pub returns-clause-says : goal.returns-clause-says
returns-clause-says g c =
    let done : c.in_ok-did.did ≡ true = search rules in
    says-more acker_left (IsAckerHeld c.args.posts.now.plan.now) c.args.n c.args.ackers.now.items c.note_at.new.ackers.items c.keep_on_at.new.ackers.items c.args.row.now.items c.note_at.new.row.items c.keep_on_at.new.row.items
    (subst (λ b. AckerSaysAt c.args.posts.now.plan.now c.args.n b c.args.ackers.now.items c.note_at.new.ackers.items c.args.row.now.items c.note_at.new.row.items) done c.in_ok-did.ensures.says) c.in_ok-keep_on_at.ensures.more

pub returns-clause-counted : goal.returns-clause-counted
returns-clause-counted g c = λ tick has. c.in_ok-keep_on_at.ensures.counted tick (c.in_ok-did.ensures.counted tick has)
