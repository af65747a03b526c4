use Rattle.std.proofs.Common.{[]}
use Rattle.schedule_core.proofs.laws.laws_of_runs.Goals as goal

pub returns : goal.returns
returns g c = λ t custom cut. record {
  first = c.worlds_are_accounted.ensures.first t custom cut;
  led = c.worlds_are_accounted.ensures.run t custom cut;
  causes = c.ends_of_worlds_have_causes.ensures t custom cut;
  whole = c.finished_runs_are_whole.ensures.whole t cut;
  at_last_batch = c.finished_runs_are_whole.ensures.batches t cut;
  begin = c.commits_of_batches_move_parts.ensures.first t custom cut;
  none_but_last = λ parts. c.counts_run_on.ensures.all_told [] parts parts (c.counts_run_on.ensures.none parts);
  counts_last = c.counts_run_on.ensures.then_last;
  all_told = c.counts_run_on.ensures.all_told;
}
