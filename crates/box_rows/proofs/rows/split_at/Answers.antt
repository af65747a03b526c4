use Rattle.std.proofs.Common.{rules}
use Rattle.box_rows.proofs.Splitting.{splits_at}
use Rattle.box_rows.proofs.rows.split_at.Goals as goal

pub returns-clause-split : goal.returns-clause-split
returns-clause-split c =
    splits_at c.args.posts.now.plan.now c.args.posts.now.boxes.items c.args.row.now.items c.args.at c.index.result.now c.index_mut.result.now c.split.new.pass c.in_ok-made.made c.requires.passes c.requires.there (search rules) (search rules)
    (search rules) c.split.ensures.view (search rules)
