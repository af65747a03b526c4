use Rattle.std.proofs.Common.{[], rules, subst}
use Rattle.box_rows.specs.AllRows.{HasJoined, HasSplit}
use Rattle.box_rows.proofs.AllRows.{comes-back, one-more}
use Rattle.box_rows.proofs.all_rows.split_rows.Goals as goal

pub loop-next-preserved : goal.loop-next-preserved
loop-next-preserved c = record {
  passes = c.split_row.ensures.passes;
  split = subst (HasSplit c.args.posts.now.plan.now c.args.posts.now.boxes.items c.args.row.now.items c.split_row.new.row.items) (search rules)
      (one-more c.args.posts.now.plan.now c.args.posts.now.boxes.items c.args.row.now.items c.loop-next.row.items c.split_row.new.row.items c.loop-next.rows.items c.in-Ok.made c.loop-next.invariant.split c.loop-next.invariant.passes (search rules) (search rules) (search rules));
  count = search rules;
  room = search rules;
}

pub returns-in-Err-clause-back : goal.returns-in-Err-clause-back
returns-in-Err-clause-back c =
    comes-back c.args.posts.now.plan.now c.args.posts.now.boxes.items c.args.row.now.items c.loop-next.row.items c.join_rows.new.row.items c.loop-next.rows.items c.loop-next.invariant.split
    (subst (λ now. HasJoined now c.loop-next.rows.items c.join_rows.new.row.items []) (search rules) c.join_rows.ensures.joined)
