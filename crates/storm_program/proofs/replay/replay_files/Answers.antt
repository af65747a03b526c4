use Rattle.std.proofs.Common.{refl}
use Rattle.storm_resume.specs.storm_answers.Outside.{run_use, shelf_use}
use Rattle.storm_resume.proofs.storm_answers.EndLemmas.{IfErr-exit, Stops-weaker, stops_on}
use Rattle.storm_resume.proofs.storm_answers.FileLemmas.{all_accepted, files_of_schedule, files_of_two, three_fetches}
use Rattle.storm_resume.proofs.storm_answers.FileCauses.{finishes_by_all_files, finishes_by_files, untouched}
use Rattle.storm_program.proofs.RunLemmas.{done_of_replay, replay_goes_through, replay_of_files, replay_of_work}
use Rattle.storm_resume.specs.stored_runs.Makers.{maker_use}
use Rattle.storm_program.proofs.replay.replay_files.Goals as goal

pub returns-in_err-files-clause-stop : goal.returns-in_err-files-clause-stop
returns-in_err-files-clause-stop g c =
    IfErr-exit c.from_residual.result _ _ c.from_residual.ensures.1 (
    Stops-weaker _ _ c.in_err-files.field-0.0
    (λ s text comes.
    replay_of_files (g.O.RowOp.meaning c.args.custom.now) (shelf_use g.H.Shelf.holds g.H.Shelf.ready g.H.Shelf.fetches g.H.Shelf.faults c.args.shelf.now c.read_files.new.shelf) (run_use (maker_use g.M.C.CellStore.tells g.M.C.CellStore.fault_count g.M.StoreMaker.holds g.M.StoreMaker.has_made g.M.StoreMaker.fault_count c.args.stores.now c.args.stores.now) (g.N.IdMaker.tells c.args.ids.now)) c.args.topology.now c.args.input.now c.args.schedule.now c.args.fates.now (c.requires, untouched g.M.C.CellStore.tells g.M.C.CellStore.fault_count g.M.StoreMaker.holds g.M.StoreMaker.has_made g.M.StoreMaker.fault_count c.args.stores.now) s text
    (files_of_two (shelf_use g.H.Shelf.holds g.H.Shelf.ready g.H.Shelf.fetches g.H.Shelf.faults c.args.shelf.now c.read_files.new.shelf) c.args.topology.now c.args.input.now c.args.schedule.now s text comes))
    c.in_err-files.ensures.stop)

pub returns-in_err-files-clause-finishes : goal.returns-in_err-files-clause-finishes
returns-in_err-files-clause-finishes g c = λ must.
    IfErr-exit c.from_residual.result _ _ c.from_residual.ensures.1 (
    finishes_by_files _ _ _ must.plan must.tells_plan must.tells_input must.shelf_fine c.in_err-files.field-0.0 c.in_err-files.ensures.stop)

pub returns-in_err-events-clause-stop : goal.returns-in_err-events-clause-stop
returns-in_err-events-clause-stop g c =
    let thrice = three_fetches _ _ _ c.in_ok-files.ensures.fetches c.in_err-events.ensures.fetches in
    IfErr-exit c.from_residual-in_err-events.result _ _ c.from_residual-in_err-events.ensures.1 (
    Stops-weaker _ _ c.in_err-events.field-0.0
    (λ s text comes.
    replay_of_files (g.O.RowOp.meaning c.args.custom.now) (shelf_use g.H.Shelf.holds g.H.Shelf.ready g.H.Shelf.fetches g.H.Shelf.faults c.args.shelf.now c.read_events.new.shelf) (run_use (maker_use g.M.C.CellStore.tells g.M.C.CellStore.fault_count g.M.StoreMaker.holds g.M.StoreMaker.has_made g.M.StoreMaker.fault_count c.args.stores.now c.args.stores.now) (g.N.IdMaker.tells c.args.ids.now)) c.args.topology.now c.args.input.now c.args.schedule.now c.args.fates.now (c.requires, untouched g.M.C.CellStore.tells g.M.C.CellStore.fault_count g.M.StoreMaker.holds g.M.StoreMaker.has_made g.M.StoreMaker.fault_count c.args.stores.now) s text
    (files_of_schedule (shelf_use g.H.Shelf.holds g.H.Shelf.ready g.H.Shelf.fetches g.H.Shelf.faults c.args.shelf.now c.read_events.new.shelf) (shelf_use g.H.Shelf.holds g.H.Shelf.ready g.H.Shelf.fetches g.H.Shelf.faults c.read_files.new.shelf c.read_events.new.shelf) c.in_ok-files.ensures.files c.args.topology.now c.args.input.now c.args.schedule.now _ _ s text c.in_ok-files.ensures.accepted thrice c.in_ok-files.ensures.stays_ready c.in_ok-files.ensures.never_falls refl comes))
    c.in_err-events.ensures.stop)

pub returns-in_err-events-clause-finishes : goal.returns-in_err-events-clause-finishes
returns-in_err-events-clause-finishes g c = λ must.
    let thrice = three_fetches _ _ _ c.in_ok-files.ensures.fetches c.in_err-events.ensures.fetches in
    IfErr-exit c.from_residual-in_err-events.result _ _ c.from_residual-in_err-events.ensures.1 (
    finishes_by_all_files (shelf_use g.H.Shelf.holds g.H.Shelf.ready g.H.Shelf.fetches g.H.Shelf.faults c.args.shelf.now c.read_events.new.shelf) c.args.topology.now c.args.input.now must.plan must.tells_plan must.tells_input must.shelf_fine c.args.schedule.now must.events must.tells_events c.in_err-events.field-0.0
    (Stops-weaker _ _ c.in_err-events.field-0.0
    (λ s text comes.
    files_of_schedule (shelf_use g.H.Shelf.holds g.H.Shelf.ready g.H.Shelf.fetches g.H.Shelf.faults c.args.shelf.now c.read_events.new.shelf) (shelf_use g.H.Shelf.holds g.H.Shelf.ready g.H.Shelf.fetches g.H.Shelf.faults c.read_files.new.shelf c.read_events.new.shelf) c.in_ok-files.ensures.files c.args.topology.now c.args.input.now c.args.schedule.now _ _ s text c.in_ok-files.ensures.accepted thrice c.in_ok-files.ensures.stays_ready c.in_ok-files.ensures.never_falls refl comes)
    c.in_err-events.ensures.stop))

pub returns-clause-done : goal.returns-clause-done
returns-clause-done g c =
    let thrice = three_fetches _ _ _ c.in_ok-files.ensures.fetches c.in_ok-events.ensures.fetches in
    let accepted = all_accepted (shelf_use g.H.Shelf.holds g.H.Shelf.ready g.H.Shelf.fetches g.H.Shelf.faults c.args.shelf.now c.read_events.new.shelf) (shelf_use g.H.Shelf.holds g.H.Shelf.ready g.H.Shelf.fetches g.H.Shelf.faults c.read_files.new.shelf c.read_events.new.shelf) c.in_ok-files.ensures.files c.args.topology.now c.args.input.now c.args.schedule.now _ _ _ c.in_ok-files.ensures.accepted c.in_ok-events.ensures.events in
    done_of_replay (g.O.RowOp.meaning c.args.custom.now) (shelf_use g.H.Shelf.holds g.H.Shelf.ready g.H.Shelf.fetches g.H.Shelf.faults c.args.shelf.now c.read_events.new.shelf) (run_use (maker_use g.M.C.CellStore.tells g.M.C.CellStore.fault_count g.M.StoreMaker.holds g.M.StoreMaker.has_made g.M.StoreMaker.fault_count c.args.stores.now c.replay_accepted.new.stores) (g.N.IdMaker.tells c.args.ids.now)) c.args.topology.now c.args.input.now c.args.schedule.now c.replay_accepted.new.fates _ _ _ thrice accepted c.replay_accepted.result c.replay_accepted.ensures.report

pub returns-clause-stop : goal.returns-clause-stop
returns-clause-stop g c =
    let thrice = three_fetches _ _ _ c.in_ok-files.ensures.fetches c.in_ok-events.ensures.fetches in
    let accepted = all_accepted (shelf_use g.H.Shelf.holds g.H.Shelf.ready g.H.Shelf.fetches g.H.Shelf.faults c.args.shelf.now c.read_events.new.shelf) (shelf_use g.H.Shelf.holds g.H.Shelf.ready g.H.Shelf.fetches g.H.Shelf.faults c.read_files.new.shelf c.read_events.new.shelf) c.in_ok-files.ensures.files c.args.topology.now c.args.input.now c.args.schedule.now _ _ _ c.in_ok-files.ensures.accepted c.in_ok-events.ensures.events in
    stops_on _ _ c.replay_accepted.result
    (replay_of_work (g.O.RowOp.meaning c.args.custom.now) (shelf_use g.H.Shelf.holds g.H.Shelf.ready g.H.Shelf.fetches g.H.Shelf.faults c.args.shelf.now c.read_events.new.shelf) (run_use (maker_use g.M.C.CellStore.tells g.M.C.CellStore.fault_count g.M.StoreMaker.holds g.M.StoreMaker.has_made g.M.StoreMaker.fault_count c.args.stores.now c.replay_accepted.new.stores) (g.N.IdMaker.tells c.args.ids.now)) c.args.topology.now c.args.input.now c.args.schedule.now c.replay_accepted.new.fates _ _ _ thrice accepted)
    c.replay_accepted.ensures.stop

pub returns-clause-finishes : goal.returns-clause-finishes
returns-clause-finishes g c = λ must.
    let accepted = all_accepted (shelf_use g.H.Shelf.holds g.H.Shelf.ready g.H.Shelf.fetches g.H.Shelf.faults c.args.shelf.now c.read_events.new.shelf) (shelf_use g.H.Shelf.holds g.H.Shelf.ready g.H.Shelf.fetches g.H.Shelf.faults c.read_files.new.shelf c.read_events.new.shelf) c.in_ok-files.ensures.files c.args.topology.now c.args.input.now c.args.schedule.now _ _ _ c.in_ok-files.ensures.accepted c.in_ok-events.ensures.events in
    let through = replay_goes_through (g.O.RowOp.meaning c.args.custom.now) (shelf_use g.H.Shelf.holds g.H.Shelf.ready g.H.Shelf.fetches g.H.Shelf.faults c.args.shelf.now c.read_events.new.shelf) (run_use (maker_use g.M.C.CellStore.tells g.M.C.CellStore.fault_count g.M.StoreMaker.holds g.M.StoreMaker.has_made g.M.StoreMaker.fault_count c.args.stores.now c.replay_accepted.new.stores) (g.N.IdMaker.tells c.args.ids.now)) c.args.topology.now c.args.input.now c.args.schedule.now c.replay_accepted.new.fates _ _ _ accepted must in
    c.replay_accepted.ensures.finishes through.free through.rounds through.few through.shuts_none
