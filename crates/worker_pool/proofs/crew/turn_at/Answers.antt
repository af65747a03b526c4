use Rattle.std.specs.Prelude.{max}
use Rattle.worker_pool.specs.Ackers.{IsAckerHeld, acker_left}
use Rattle.worker_pool.proofs.Adding.{ackers-then}
use Rattle.worker_pool.proofs.Saying.{more-says}
use Rattle.worker_pool.proofs.crew.turn_at.Goals as goal

pub returns-clause-did : goal.returns-clause-did
returns-clause-did g c =
    ackers-then c.args.posts.now.plan.now c.args.ackers.now.items c.count_at.new.ackers.items c.meet_at.new.ackers.items
    c.args.row.now.items c.args.row.now.items c.meet_at.new.row.items c.count_at.ensures.did c.in_ok-did.ensures.did

pub returns-clause-says : goal.returns-clause-says
returns-clause-says g c =
    more-says acker_left (IsAckerHeld c.args.posts.now.plan.now) c.args.n c.in_ok-did.did c.args.ackers.now.items c.count_at.new.ackers.items c.meet_at.new.ackers.items c.args.row.now.items c.meet_at.new.row.items
    c.count_at.ensures.more c.in_ok-did.ensures.says

pub returns-clause-counted : goal.returns-clause-counted
returns-clause-counted g c = λ d at. c.in_ok-did.ensures.counted (max d.counted c.args.tick) (c.count_at.ensures.counted d at)
