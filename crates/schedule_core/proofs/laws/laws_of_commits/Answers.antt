use Rattle.std.proofs.Common.{◌<◌, ℕ, subst}
use Rattle.schedule_core.proofs.laws.laws_of_commits.Goals as goal

pub returns : goal.returns
returns g c = λ t custom cut. record {
  done = c.commits_of_batches_move_parts.ensures.done t custom cut;
  broken_off = λ batches spans root old new input.
      c.commits_of_batches_move_parts.ensures.broken_off t custom cut batches spans root old new input.wired (λ some. input.wired.partitioned (subst (λ (n : ℕ). 0 < n) input.partitions some));
  number = c.next_commits_are_of_the_next_batch.ensures.number t cut;
  batch = c.next_commits_are_of_the_next_batch.ensures.batch t cut;
  left = c.next_commits_are_of_the_next_batch.ensures.left t cut;
  strange = c.strange_cells_were_there.ensures.commit custom;
  bad = c.strange_cells_were_there.ensures.bad_before custom;
  decided_counts = c.failures_of_commits_are_counted.ensures.decided t cut;
  told_counts = c.failures_of_commits_are_counted.ensures.counted t cut;
  quiet_counts = c.counts_run_on.ensures.quiet;
  last_counts = c.counts_run_on.ensures.last;
  all_told = c.counts_run_on.ensures.all_told;
  outcome = c.failures_of_commits_are_counted.ensures.outcome t;
  settled = c.worlds_with_others_are_accounted.ensures.settled t custom cut;
}
