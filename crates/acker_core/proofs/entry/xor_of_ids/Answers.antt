use Rattle.std.proofs.Common.{◌<◌, length, ◌∙◌, arith}
use Rattle.acker_core.proofs.ChildIds.{one_child_less}
use Rattle.acker_core.proofs.entry.xor_of_ids.Goals as goal

pub loop-id-preserved : goal.loop-id-preserved
loop-id-preserved c path k =
    let low : c.loop-id.id-index < length c.args.ids.now = let t = c.loop-id-test.true in omega arith in
    one_child_less path k c.loop-id.word c.args.ids.now c.loop-id.id-index low ∙ c.loop-id.invariant path k
