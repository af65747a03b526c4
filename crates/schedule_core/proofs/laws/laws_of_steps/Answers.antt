use Rattle.std.proofs.Common.{[]}
use Rattle.schedule_core.proofs.laws.laws_of_steps.Goals as goal

pub returns : goal.returns
returns g c = λ t custom cut. record {
  accounted = c.worlds_are_accounted.ensures.run t custom cut;
  counts_none = c.counts_run_on.ensures.none;
  counts_then = c.counts_run_on.ensures.then;
  none_but_last = λ parts. c.counts_run_on.ensures.all_told [] parts parts (c.counts_run_on.ensures.none parts);
}
