use Rattle.std.proofs.Common.{◌<◌, ◌%◌, length, refl, ◌∙◌, arith}
use Rattle.std.proofs.lemmas.List.{length-set}
use Rattle.std.proofs.lemmas.Nat.{mod_below}
use Rattle.record_offers.proofs.MarkLemmas.{kept_reached, lowered_no_higher, lowered_own, lowered_reached}
use Rattle.record_offers.proofs.marks.lower.Goals.{then-at-low, else-at-low}
use Rattle.record_offers.proofs.marks.lower.Goals as goal

pub loop-at-preserved : goal.loop-at-preserved
loop-at-preserved c =
    let inv = c.loop-at.invariant in
    let n = length c.args.low.now in
    let at = c.loop-at.at in
    let len = inv.len in
    let some : 0 < n = omega (arith, c.if-partitions-eq0.false) in
    let q = mod_below at n some in
    let within : at % n < length c.loop-at.low = omega (arith, len, q) in
    elim c.if-at-low.branch [
      | then-at-low w ↦ rw w.low-is (record {
        len = length-set c.loop-at.low (at % n) at ∙ len;
        no_higher = lowered_no_higher c.loop-at.low (at % n) at within c.args.low.now w.if-at-low.true inv.no_higher;
        reached = lowered_reached c.loop-at.low (at % n) at within n c.args.span.now.first refl w.if-at-low.true inv.reached;
        own = λ owns. lowered_own c.loop-at.low (at % n) at within n refl (inv.own owns);
      })
      | else-at-low w ↦ rw w.low-is (record {
        len = len;
        no_higher = inv.no_higher;
        reached = kept_reached c.loop-at.low n at c.args.span.now.first w.if-at-low.false inv.reached;
        own = inv.own;
      })
    ]
