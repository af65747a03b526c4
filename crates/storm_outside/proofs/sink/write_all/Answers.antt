use Rattle.std.proofs.Common.{ℕ, arith, length-drop}
use Rattle.std.proofs.lemmas.List.{length-take, take_all}
use Rattle.storm_outside.proofs.Progress.{took_more}
use Rattle.storm_outside.proofs.sink.write_all.Goals as goal

pub loop-at-preserved : goal.loop-at-preserved
loop-at-preserved g c = record {
  within = omega (arith, c.in_ok-count.ensures.count, length-take {A = ℕ}, length-drop {A = ℕ});
  taken = took_more _ _ _ _ _ _ _ (take_all _ _ (omega (arith, length-drop {A = ℕ}))) c.loop-at.invariant.taken c.in_ok-count.ensures.took;
  untold = λ none. c.write.ensures.untold (c.loop-at.invariant.untold none);
  faults = omega arith;
}
