use Rattle.std.proofs.Common.{◌≡◌, arith, refl}
use Rattle.event_worlds.specs.Added.{first_history}
use Rattle.event_worlds.specs.Worlds.{Known, first_known, run}
use Rattle.world_progress.specs.Running.{so_far}
use Rattle.stored_runs.proofs.laws.laws_of_runs.Goals as goal

pub returns : goal.returns
returns g c = record {
  worlds = λ t custom cut. record {
    first = c.worlds_are_accounted.ensures.first t custom cut;
    led = c.worlds_are_accounted.ensures.run t custom cut;
    at_last_batch = c.finished_runs_are_whole.ensures.batches t cut;
    none_abort = λ words outcomes steps input keeps can done few apart.
        let begin : Known = first_known t cut words in
        let none : begin.world.tick ≡ 0 = refl in
        let lasts = c.lasting_worlds_go_on.ensures.steps t custom cut words outcomes steps (first_history t words) begin
        input keeps done (c.lasting_worlds_go_on.ensures.first t custom cut words input) (omega (arith, none, few)) in
        let late = lasts.tick in
        c.no_attempt_aborts_with_partitions.ensures t custom cut words
        (so_far t custom cut words outcomes steps (first_history t words) begin)
        (run t custom cut words outcomes steps begin) input can lasts.last (omega (arith, none, few, late)) apart;
    rounds = c.enough_rounds_finish.ensures.first t custom cut;
  };
  parts = λ t custom cut. record {
    sum = c.counts_run_on.ensures.sum;
    last_sum = c.counts_run_on.ensures.last_sum;
    part = c.failures_of_commits_are_counted.ensures.part t;
    begin = c.commits_of_batches_move_parts.ensures.first t custom cut;
    tables = c.parts_that_stand_have_the_tables.ensures t custom cut;
    hold_known = c.all_batches_hold_all_records.ensures.known cut;
    bad_cell = c.strange_cells_were_there.ensures.bad_cell;
    bad_row = c.strange_cells_were_there.ensures.bad_row;
  };
}
