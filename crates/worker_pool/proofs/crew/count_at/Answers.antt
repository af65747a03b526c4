use Rattle.std.proofs.Common.{rules}
use Rattle.box_rows.proofs.Weighing.{at-some}
use Rattle.worker_pool.specs.Ackers.{IsAcker, acker_left}
use Rattle.worker_pool.proofs.Acking.{acker_counted, counts-here, counts_done, still_acker}
use Rattle.worker_pool.proofs.Adding.{ackers-at}
use Rattle.worker_pool.proofs.Saying.{more-at}
use Rattle.worker_pool.proofs.Outboxing.{each-get, each-put}
use Rattle.worker_pool.proofs.crew.count_at.Goals as goal

pub returns-clause-ackers : goal.returns-clause-ackers
returns-clause-ackers c =
    each-put (IsAcker c.args.posts.now.plan.now) c.args.ackers.now.items c.args.n c.count_up.new.self c.requires.ackers
    (still_acker c.args.posts.now.plan.now c.index_mut.result.now c.count_up.new.self c.count_up.ensures.counts
    (each-get (IsAcker c.args.posts.now.plan.now) c.args.ackers.now.items c.args.n c.index_mut.result.now c.requires.ackers (at-some c.args.ackers.now.items c.args.n c.index_mut.result.now c.requires.there (search rules))))

pub returns-clause-did : goal.returns-clause-did
returns-clause-did c =
    ackers-at c.args.posts.now.plan.now c.args.ackers.now.items c.args.n c.index_mut.result.now c.count_up.new.self c.args.row.now.items c.args.row.now.items
    (at-some c.args.ackers.now.items c.args.n c.index_mut.result.now c.requires.there (search rules))
    (acker_counted c.args.posts.now.plan.now c.index_mut.result.now c.count_up.new.self c.args.row.now.items c.count_up.ensures.counts
    (each-get (IsAcker c.args.posts.now.plan.now) c.args.ackers.now.items c.args.n c.index_mut.result.now c.requires.ackers (at-some c.args.ackers.now.items c.args.n c.index_mut.result.now c.requires.there (search rules))))

pub returns-clause-more : goal.returns-clause-more
returns-clause-more c =
    more-at acker_left c.args.ackers.now.items c.args.n c.index_mut.result.now c.count_up.new.self c.args.row.now.items c.args.row.now.items
    (at-some c.args.ackers.now.items c.args.n c.index_mut.result.now c.requires.there (search rules))
    (counts_done c.index_mut.result.now c.count_up.new.self c.args.row.now.items c.count_up.ensures.counts)

pub returns-clause-counted : goal.returns-clause-counted
returns-clause-counted c =
    counts-here c.args.ackers.now.items c.args.n c.args.tick c.index_mut.result.now c.count_up.new.self
    (at-some c.args.ackers.now.items c.args.n c.index_mut.result.now c.requires.there (search rules)) c.count_up.ensures.counted
