use Rattle.std.proofs.Common.{arith}
use Rattle.rotating_ledger.proofs.BucketLemmas.{none-end, AllFound-end}
use Rattle.rotating_ledger.proofs.rotating.Rotating.new.Goals as goal

pub loop-count-preserved : goal.loop-count-preserved
loop-count-preserved g c =
    let kept = c.loop-count.invariant in
    let len = c.in_ok-push.ensures.len in
    let long = kept.0 in (
      omega arith,
      rw c.in_ok-push.ensures.items (none-end c.loop-count.made.items c.new.result kept.1 c.new.ensures.empty),
      rw c.in_ok-push.ensures.items (AllFound-end c.loop-count.made.items c.new.result kept.2 c.new.ensures.found),
    )
