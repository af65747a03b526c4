use Rattle.std.proofs.Common.{rules}
use Rattle.box_rows.proofs.Splitting.{joins_at}
use Rattle.box_rows.proofs.rows.join_at.Goals as goal

pub returns-clause-joined : goal.returns-clause-joined
returns-clause-joined c =
    joins_at c.args.posts.now.plan.now c.args.posts.now.boxes.items c.args.into.now.items c.args.at c.index.result.now c.index_mut.result.now c.join.new.into c.args.other c.requires.passes c.requires.there (search rules) (search rules)
    c.join.ensures.view
