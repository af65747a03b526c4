use Rattle.std.proofs.Common.{rules, ◌∙◌, arith}
use Rattle.std.proofs.lemmas.List.{length-set}
use Rattle.record_offers.proofs.MarkLemmas.{raised}
use Rattle.record_offers.proofs.marks.raise.Goals as goal

pub loop-partition-preserved : goal.loop-partition-preserved
loop-partition-preserved c =
    let len = c.loop-partition.invariant.len in
    let q = c.loop-partition-test.true in
    record {
      len = length-set c.loop-partition.low c.loop-partition.partition c.first_left.result ∙ len;
      bounds = raised c.loop-partition.low c.args.gone.now c.loop-partition.partition c.first_left.result c.loop-partition.invariant.bounds (omega (arith, q, len)) (rw len (search rules)) (rw len (search rules));
    }
