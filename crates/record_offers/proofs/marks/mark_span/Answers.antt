use Rattle.std.proofs.Common.{◌≡◌, arith}
use Rattle.record_offers.proofs.marks.mark_span.Goals as goal

pub returns : goal.returns
returns c =
    let e : c.loop-at.at ≡ c.args.span.now.last = omega arith in
    record { marks = rw e at c.loop-at.invariant.marks; more = c.loop-at.invariant.more }
