use Rattle.std.proofs.Common.{rules}
use Rattle.box_rows.proofs.Making.{made-all, made-more, made-none}
use Rattle.box_rows.proofs.boxes.Boxes.new.Goals as goal

pub loop-owner-init : goal.loop-owner-init
loop-owner-init c = made-none c.args.plan.now c.new-boxes.result.items c.new-row.result.items (search rules) (search rules)

pub returns-clause-row : goal.returns-clause-row
returns-clause-row c = made-all c.args.plan.now c.loop-owner.owner c.loop-owner.boxes.items c.loop-owner.row.items c.loop-owner.invariant (search rules)

pub loop-owner-preserved : goal.loop-owner-preserved
loop-owner-preserved c =
    made-more c.args.plan.now c.loop-owner.owner c.loop-owner.boxes.items c.push.new.self.items c.loop-owner.row.items c.push-in-loop-owner.new.self.items c.in_ok-mailbox.mailbox c.in_ok-mailbox.pass c.loop-owner.invariant
    (search rules) (search rules) (search rules) (search rules) (search rules)
