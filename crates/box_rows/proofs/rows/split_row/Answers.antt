use Rattle.std.proofs.Common.{rules, ◌+◌, subst}
use Rattle.box_rows.proofs.Splitting.{HalfSplit, split-cut, split-kept, split-more, split-starts}
use Rattle.box_rows.proofs.rows.split_row.Goals as goal

pub loop-n-init : goal.loop-n-init
loop-n-init c = record {
  half =
      subst (HalfSplit c.args.posts.now.plan.now c.args.posts.now.boxes.items 0 c.args.row.now.items c.args.row.now.items) (search rules)
      (split-starts c.args.posts.now.plan.now c.args.posts.now.boxes.items c.args.row.now.items c.requires);
  room = search rules;
}

pub loop-n-preserved : goal.loop-n-preserved
loop-n-preserved c = record {
  half =
      subst (HalfSplit c.args.posts.now.plan.now c.args.posts.now.boxes.items (c.loop-n.n + 1) c.args.row.now.items c.split_at.new.row.items) (search rules)
      (split-more c.args.posts.now.plan.now c.args.posts.now.boxes.items c.args.row.now.items c.loop-n.n c.loop-n.row.items c.split_at.new.row.items c.loop-n.made.items c.in_ok-pass.pass c.loop-n.invariant.half c.split_at.ensures.passes (search rules));
  room = search rules;
}

pub returns-clause-kept : goal.returns-clause-kept
returns-clause-kept c =
    split-kept c.args.posts.now.plan.now c.args.posts.now.boxes.items c.args.row.now.items c.loop-n.n c.loop-n.row.items c.loop-n.made.items c.loop-n.invariant.half (search rules)

pub returns-clause-cut : goal.returns-clause-cut
returns-clause-cut c =
    split-cut c.args.posts.now.plan.now c.args.posts.now.boxes.items c.args.row.now.items c.loop-n.n c.loop-n.row.items c.loop-n.made.items c.loop-n.invariant.half (search rules)
