use Rattle.std.proofs.Common.{rules}
use Rattle.box_rows.proofs.Fitting.{looked-all, looked-more, looked-none}
use Rattle.box_rows.proofs.fit.look_row.Goals as goal

pub loop-n-init : goal.loop-n-init
loop-n-init c = record { passes = c.requires.passes; looked = looked-none c.args.row.now.items }

pub loop-n-preserved : goal.loop-n-preserved
loop-n-preserved c = record {
  passes = c.look_at.ensures.passes;
  looked = looked-more c.loop-n.n c.args.row.now.items c.loop-n.row.items c.look_at.new.row.items c.requires.whole c.loop-n.invariant.looked c.look_at.ensures.same c.look_at.ensures.tells;
}

pub returns-clause-row : goal.returns-clause-row
returns-clause-row c = looked-all c.args.posts.now.plan.now c.args.posts.now.boxes.items c.args.row.now.items c.loop-n.row.items c.loop-n.n c.loop-n.invariant.passes c.requires.boxes c.loop-n.invariant.looked (search rules)
