use Rattle.std.proofs.Common.{length, subst, sym, ◌≤◌}
use Rattle.event_worlds.specs.storm_values.Limits.{most_lines}
use Rattle.storm_answers.proofs.EndLemmas.{stops_on}
use Rattle.storm_answers.specs.Outside.{run_use, shelf_use, ticks_use}
use Rattle.storm_answers.specs.stored_runs.Makers.{maker_use}
use Rattle.storm_resume.proofs.Calling.{comes_of_accepted}
use Rattle.storm_resume.proofs.Goings.{few_records}
use Rattle.storm_resume.specs.Keeping.{keeper_use}
use Rattle.storm_resume.proofs.going_on.resume_files.Goals as goal

pub resume_accepted-requires-clause-few_rows : goal.resume_accepted-requires-clause-few_rows
resume_accepted-requires-clause-few_rows g c κs within =
    let are = c.in_ok-files.ensures.accepted.input_file in
    subst (λ rows. length rows ≤ most_lines) (sym are.are) (few_records are.bytes _ are.is_accepted)

pub returns-clause-stop : goal.returns-clause-stop
returns-clause-stop g c =
    stops_on _ _ c.resume_accepted.result
    (comes_of_accepted (g.O.RowOp.meaning c.args.custom.now)
    (shelf_use g.H.Shelf.holds g.H.Shelf.ready g.H.Shelf.fetches g.H.Shelf.faults c.args.shelf.now c.read_files.new.shelf)
    (run_use (maker_use g.M.C.CellStore.tells g.M.C.CellStore.fault_count g.M.StoreMaker.holds g.M.StoreMaker.has_made g.M.StoreMaker.fault_count c.args.stores.now c.resume_accepted.new.stores) (g.N.IdMaker.tells c.args.ids.now))
    (keeper_use g.P.Keeper.holds g.P.Keeper.fault_count c.args.keeper.now.keeper c.resume_accepted.new.keeper.keeper)
    (ticks_use g.T.Ticks.handed_out g.T.Ticks.tells c.args.ticks.now c.resume_accepted.new.ticks)
    c.args.topology.now c.args.input.now c.resume_accepted.new.fates _ _ c.in_ok-files.ensures.fetches c.in_ok-files.ensures.accepted)
    c.resume_accepted.ensures.stop
