use Rattle.worker_runs.proofs.laws.laws_of_workers.Goals as goal

pub returns : goal.returns
returns c = λ t custom cut. record {
  lasting = c.lasting_worlds_go_on.ensures.first t custom cut;
  heard = c.complete_verdicts_are_heard.ensures.first t cut;
  finished = c.what_is_over_is_finished.ensures t custom cut;
  none_aborts = c.no_attempt_aborts_with_partitions.ensures t custom cut;
  boxes = c.boxes_tell_of_ends.ensures t custom cut;
  took = c.rows_took_true.ensures.fit t;
}
