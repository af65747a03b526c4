use Rattle.std.proofs.Common.{rules}
use Rattle.box_rows.proofs.Weighing.{at-some}
use Rattle.worker_pool.specs.Ackers.{IsAckerHeld, acker_left}
use Rattle.worker_pool.proofs.Acking.{counted-kept}
use Rattle.worker_pool.proofs.Adding.{ackers-at}
use Rattle.worker_pool.proofs.Saying.{says-at}
use Rattle.worker_pool.proofs.crew.note_at.Goals as goal

pub returns-clause-did : goal.returns-clause-did
returns-clause-did g c =
    ackers-at c.args.posts.now.plan.now c.args.ackers.now.items c.args.n c.index_mut.result.now c.step.new.self c.args.row.now.items c.step.new.row.items
    (at-some c.args.ackers.now.items c.args.n c.index_mut.result.now c.requires.there (search rules)) c.in_ok-did.ensures.did

pub returns-clause-says : goal.returns-clause-says
returns-clause-says g c =
    says-at acker_left (IsAckerHeld c.args.posts.now.plan.now) c.args.ackers.now.items c.args.n c.index_mut.result.now c.step.new.self c.in_ok-did.did c.args.row.now.items c.step.new.row.items
    (at-some c.args.ackers.now.items c.args.n c.index_mut.result.now c.requires.there (search rules)) c.in_ok-did.ensures.says

pub returns-clause-counted : goal.returns-clause-counted
returns-clause-counted g c =
    counted-kept c.args.ackers.now.items c.args.n c.index_mut.result.now c.step.new.self
    (at-some c.args.ackers.now.items c.args.n c.index_mut.result.now c.requires.there (search rules)) c.in_ok-did.ensures.counted
