use Rattle.storm_resume.specs.storm_answers.Outside.{run_use, shelf_use, ticks_use}
use Rattle.storm_resume.proofs.storm_answers.EndLemmas.{IfErr-exit, Stops-weaker, stops_on}
use Rattle.storm_resume.proofs.storm_answers.FileCauses.{finishes_by_files, untouched}
use Rattle.storm_program.proofs.RunLemmas.{done_of_report, goes_through, run_of_files, run_of_work}
use Rattle.storm_resume.specs.stored_runs.Makers.{maker_use}
use Rattle.storm_program.proofs.run.run_files.Goals as goal

pub returns-in_err-files-clause-stop : goal.returns-in_err-files-clause-stop
returns-in_err-files-clause-stop g c =
    IfErr-exit c.from_residual.result _ _ c.from_residual.ensures.1 (
    Stops-weaker _ _ c.in_err-files.field-0.0
    (run_of_files (g.O.RowOp.meaning c.args.custom.now)
    (shelf_use g.H.Shelf.holds g.H.Shelf.ready g.H.Shelf.fetches g.H.Shelf.faults c.args.shelf.now c.read_files.new.shelf)
    (run_use (maker_use g.M.C.CellStore.tells g.M.C.CellStore.fault_count g.M.StoreMaker.holds g.M.StoreMaker.has_made g.M.StoreMaker.fault_count c.args.stores.now c.args.stores.now) (g.N.IdMaker.tells c.args.ids.now))
    (ticks_use g.T.Ticks.handed_out g.T.Ticks.tells c.args.ticks.now c.args.ticks.now)
    c.args.topology.now c.args.input.now c.args.fates.now
    (c.requires.fates, untouched g.M.C.CellStore.tells g.M.C.CellStore.fault_count g.M.StoreMaker.holds g.M.StoreMaker.has_made g.M.StoreMaker.fault_count c.args.stores.now))
    c.in_err-files.ensures.stop)

pub returns-in_err-files-clause-finishes : goal.returns-in_err-files-clause-finishes
returns-in_err-files-clause-finishes g c = λ must.
    IfErr-exit c.from_residual.result _ _ c.from_residual.ensures.1 (
    finishes_by_files _ _ _ must.plan must.tells_plan must.tells_input must.shelf_fine c.in_err-files.field-0.0 c.in_err-files.ensures.stop)

pub returns-clause-done : goal.returns-clause-done
returns-clause-done g c =
    done_of_report (g.O.RowOp.meaning c.args.custom.now)
    (shelf_use g.H.Shelf.holds g.H.Shelf.ready g.H.Shelf.fetches g.H.Shelf.faults c.args.shelf.now c.read_files.new.shelf)
    (run_use (maker_use g.M.C.CellStore.tells g.M.C.CellStore.fault_count g.M.StoreMaker.holds g.M.StoreMaker.has_made g.M.StoreMaker.fault_count c.args.stores.now c.run_accepted.new.stores) (g.N.IdMaker.tells c.args.ids.now))
    (ticks_use g.T.Ticks.handed_out g.T.Ticks.tells c.args.ticks.now c.run_accepted.new.ticks)
    c.args.topology.now c.args.input.now c.run_accepted.new.fates _ _ c.in_ok-files.ensures.fetches c.in_ok-files.ensures.accepted c.run_accepted.result c.run_accepted.ensures.report

pub returns-clause-stop : goal.returns-clause-stop
returns-clause-stop g c =
    stops_on _ _ c.run_accepted.result
    (run_of_work (g.O.RowOp.meaning c.args.custom.now)
    (shelf_use g.H.Shelf.holds g.H.Shelf.ready g.H.Shelf.fetches g.H.Shelf.faults c.args.shelf.now c.read_files.new.shelf)
    (run_use (maker_use g.M.C.CellStore.tells g.M.C.CellStore.fault_count g.M.StoreMaker.holds g.M.StoreMaker.has_made g.M.StoreMaker.fault_count c.args.stores.now c.run_accepted.new.stores) (g.N.IdMaker.tells c.args.ids.now))
    (ticks_use g.T.Ticks.handed_out g.T.Ticks.tells c.args.ticks.now c.run_accepted.new.ticks)
    c.args.topology.now c.args.input.now c.run_accepted.new.fates _ _ c.in_ok-files.ensures.fetches c.in_ok-files.ensures.accepted)
    c.run_accepted.ensures.stop

pub returns-clause-finishes : goal.returns-clause-finishes
returns-clause-finishes g c = λ must.
    let through = goes_through (g.O.RowOp.meaning c.args.custom.now)
    (shelf_use g.H.Shelf.holds g.H.Shelf.ready g.H.Shelf.fetches g.H.Shelf.faults c.args.shelf.now c.read_files.new.shelf)
    (run_use (maker_use g.M.C.CellStore.tells g.M.C.CellStore.fault_count g.M.StoreMaker.holds g.M.StoreMaker.has_made g.M.StoreMaker.fault_count c.args.stores.now c.run_accepted.new.stores) (g.N.IdMaker.tells c.args.ids.now))
    (ticks_use g.T.Ticks.handed_out g.T.Ticks.tells c.args.ticks.now c.run_accepted.new.ticks)
    c.args.topology.now c.args.input.now c.run_accepted.new.fates (g.V.Avail.tells c.args.avail.now) _ _ c.in_ok-files.ensures.accepted must in
    c.run_accepted.ensures.finishes through.to_come through.told through.all_open through.free through.few
