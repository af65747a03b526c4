use Rattle.std.proofs.Common.{rules, ◌∙◌}
use Rattle.std.proofs.Math.Nat.{add-mod_right}
use Rattle.record_offers.proofs.MarkLemmas.{left_more}
use Rattle.record_offers.proofs.marks.first_left.Goals as goal

pub loop-at-preserved : goal.loop-at-preserved
loop-at-preserved c = record {
  own = add-mod_right c.loop-at.at c.args.step ∙ c.loop-at.invariant.own;
  gone = left_more c.args.gone.now c.args.from c.loop-at.at c.args.step c.requires.some c.loop-at.invariant.own (search rules) c.loop-at.invariant.gone;
}
