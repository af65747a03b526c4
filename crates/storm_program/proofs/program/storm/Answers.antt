use Rattle.std.proofs.Common.{◌≡◌, None, Some, map, refl, rules, string_bytes}
use Rattle.storm_resume.specs.storm_answers.Outside.{run_use, shelf_use, sink_use, ticks_use}
use Rattle.storm_resume.proofs.storm_answers.FileCauses.{untouched}
use Rattle.storm_program.proofs.RunLemmas.{ends_check, ends_fold, ends_load, ends_own, ends_plain, ends_track, ends_words}
use Rattle.storm_words.specs.Words.{check, command, fold_over, load, plain, replay, run, track}
use Rattle.storm_resume.specs.stored_runs.Makers.{maker_use}
use Rattle.storm_program.proofs.program.storm.Goals as goal

pub returns-in-Check-clause-ends : goal.returns-in-Check-clause-ends
returns-in-Check-clause-ends g c =
    let is : command (map string_bytes c.args.words.now) ≡ Some (check c.in-Check.topology.now) = search rules in
    ends_check
    (g.O.RowOp.meaning c.args.custom.now)
    (shelf_use g.H.Shelf.holds g.H.Shelf.ready g.H.Shelf.fetches g.H.Shelf.faults c.args.shelf.now c.storm_check.new.shelf)
    (sink_use g.K.Sink.taken g.K.Sink.faults c.args.out.now c.storm_check.new.out)
    (run_use (maker_use g.M.C.CellStore.tells g.M.C.CellStore.fault_count g.M.StoreMaker.holds g.M.StoreMaker.has_made g.M.StoreMaker.fault_count c.args.stores.now c.args.stores.now) (g.N.IdMaker.tells c.args.ids.now))
    (ticks_use g.T.Ticks.handed_out g.T.Ticks.tells c.args.ticks.now c.args.ticks.now) (g.V.Avail.tells c.args.avail.now)
    c.args.fates.now (command (map string_bytes c.args.words.now)) c.storm_check.result
    c.in-Check.topology.now is c.requires (untouched g.M.C.CellStore.tells g.M.C.CellStore.fault_count g.M.StoreMaker.holds g.M.StoreMaker.has_made g.M.StoreMaker.fault_count c.args.stores.now) c.storm_check.ensures.ends

pub returns-in-Plain-clause-ends : goal.returns-in-Plain-clause-ends
returns-in-Plain-clause-ends g c =
    let is : command (map string_bytes c.args.words.now) ≡ Some (plain c.in-Plain.topology.now c.in-Plain.input.now) = search rules in
    ends_plain
    (g.O.RowOp.meaning c.args.custom.now)
    (shelf_use g.H.Shelf.holds g.H.Shelf.ready g.H.Shelf.fetches g.H.Shelf.faults c.args.shelf.now c.storm_plain.new.shelf)
    (sink_use g.K.Sink.taken g.K.Sink.faults c.args.out.now c.storm_plain.new.out)
    (run_use (maker_use g.M.C.CellStore.tells g.M.C.CellStore.fault_count g.M.StoreMaker.holds g.M.StoreMaker.has_made g.M.StoreMaker.fault_count c.args.stores.now c.args.stores.now) (g.N.IdMaker.tells c.args.ids.now))
    (ticks_use g.T.Ticks.handed_out g.T.Ticks.tells c.args.ticks.now c.args.ticks.now) (g.V.Avail.tells c.args.avail.now)
    c.args.fates.now (command (map string_bytes c.args.words.now)) c.storm_plain.result
    c.in-Plain.topology.now c.in-Plain.input.now is c.requires (untouched g.M.C.CellStore.tells g.M.C.CellStore.fault_count g.M.StoreMaker.holds g.M.StoreMaker.has_made g.M.StoreMaker.fault_count c.args.stores.now) c.storm_plain.ensures.ends

pub returns-in-Replay-clause-ends : goal.returns-in-Replay-clause-ends
returns-in-Replay-clause-ends g c =
    let is : command (map string_bytes c.args.words.now) ≡ Some (replay c.in-Replay.topology.now c.in-Replay.input.now c.in-Replay.schedule.now) = search rules in
    ends_own
    (g.O.RowOp.meaning c.args.custom.now)
    (shelf_use g.H.Shelf.holds g.H.Shelf.ready g.H.Shelf.fetches g.H.Shelf.faults c.args.shelf.now c.storm_replay.new.shelf)
    (sink_use g.K.Sink.taken g.K.Sink.faults c.args.out.now c.storm_replay.new.out)
    (run_use (maker_use g.M.C.CellStore.tells g.M.C.CellStore.fault_count g.M.StoreMaker.holds g.M.StoreMaker.has_made g.M.StoreMaker.fault_count c.args.stores.now c.storm_replay.new.stores) (g.N.IdMaker.tells c.args.ids.now))
    (ticks_use g.T.Ticks.handed_out g.T.Ticks.tells c.args.ticks.now c.args.ticks.now) (g.V.Avail.tells c.args.avail.now)
    c.storm_replay.new.fates (command (map string_bytes c.args.words.now)) c.storm_replay.result
    (Some (replay c.in-Replay.topology.now c.in-Replay.input.now c.in-Replay.schedule.now)) is c.storm_replay.ensures.ends

pub returns-in-Run-clause-ends : goal.returns-in-Run-clause-ends
returns-in-Run-clause-ends g c =
    let is : command (map string_bytes c.args.words.now) ≡ Some (run c.in-Run.topology.now c.in-Run.input.now c.in-Run.workers) = search rules in
    ends_own
    (g.O.RowOp.meaning c.args.custom.now)
    (shelf_use g.H.Shelf.holds g.H.Shelf.ready g.H.Shelf.fetches g.H.Shelf.faults c.args.shelf.now c.storm_run.new.shelf)
    (sink_use g.K.Sink.taken g.K.Sink.faults c.args.out.now c.storm_run.new.out)
    (run_use (maker_use g.M.C.CellStore.tells g.M.C.CellStore.fault_count g.M.StoreMaker.holds g.M.StoreMaker.has_made g.M.StoreMaker.fault_count c.args.stores.now c.storm_run.new.stores) (g.N.IdMaker.tells c.args.ids.now))
    (ticks_use g.T.Ticks.handed_out g.T.Ticks.tells c.args.ticks.now c.storm_run.new.ticks) (g.V.Avail.tells c.args.avail.now)
    c.storm_run.new.fates (command (map string_bytes c.args.words.now)) c.storm_run.result
    (Some (run c.in-Run.topology.now c.in-Run.input.now c.in-Run.workers)) is c.storm_run.ensures.ends

pub returns-in-Load-clause-ends : goal.returns-in-Load-clause-ends
returns-in-Load-clause-ends g c =
    let is : command (map string_bytes c.args.words.now) ≡ Some (load c.in-Load.records c.in-Load.seed) = search rules in
    ends_load
    (g.O.RowOp.meaning c.args.custom.now)
    (shelf_use g.H.Shelf.holds g.H.Shelf.ready g.H.Shelf.fetches g.H.Shelf.faults c.args.shelf.now c.args.shelf.now)
    (sink_use g.K.Sink.taken g.K.Sink.faults c.args.out.now c.storm_load.new.out)
    (run_use (maker_use g.M.C.CellStore.tells g.M.C.CellStore.fault_count g.M.StoreMaker.holds g.M.StoreMaker.has_made g.M.StoreMaker.fault_count c.args.stores.now c.storm_load.new.stores) (g.N.IdMaker.tells c.args.ids.now))
    (ticks_use g.T.Ticks.handed_out g.T.Ticks.tells c.args.ticks.now c.args.ticks.now) (g.V.Avail.tells c.args.avail.now)
    c.storm_load.new.fates (command (map string_bytes c.args.words.now)) c.storm_load.result
    c.in-Load.records c.in-Load.seed is refl c.storm_load.ensures.ends

pub returns-in-Track-clause-ends : goal.returns-in-Track-clause-ends
returns-in-Track-clause-ends g c =
    let is : command (map string_bytes c.args.words.now) ≡ Some (track c.in-Track.topology.now c.in-Track.input.now c.in-Track.workers) = search rules in
    ends_track
    (g.O.RowOp.meaning c.args.custom.now)
    (shelf_use g.H.Shelf.holds g.H.Shelf.ready g.H.Shelf.fetches g.H.Shelf.faults c.args.shelf.now c.storm_track.new.shelf)
    (sink_use g.K.Sink.taken g.K.Sink.faults c.args.out.now c.storm_track.new.out)
    (run_use (maker_use g.M.C.CellStore.tells g.M.C.CellStore.fault_count g.M.StoreMaker.holds g.M.StoreMaker.has_made g.M.StoreMaker.fault_count c.args.stores.now c.args.stores.now) (g.N.IdMaker.tells c.args.ids.now))
    (ticks_use g.T.Ticks.handed_out g.T.Ticks.tells c.args.ticks.now c.args.ticks.now) (g.V.Avail.tells c.args.avail.now)
    c.args.fates.now (command (map string_bytes c.args.words.now)) c.storm_track.result
    c.in-Track.topology.now c.in-Track.input.now c.in-Track.workers is c.requires (untouched g.M.C.CellStore.tells g.M.C.CellStore.fault_count g.M.StoreMaker.holds g.M.StoreMaker.has_made g.M.StoreMaker.fault_count c.args.stores.now) c.storm_track.ensures.ends

pub returns-in-Fold-clause-ends : goal.returns-in-Fold-clause-ends
returns-in-Fold-clause-ends g c =
    let is : command (map string_bytes c.args.words.now) ≡ Some (fold_over c.in-Fold.topology.now c.in-Fold.input.now c.in-Fold.workers) = search rules in
    ends_fold
    (g.O.RowOp.meaning c.args.custom.now)
    (shelf_use g.H.Shelf.holds g.H.Shelf.ready g.H.Shelf.fetches g.H.Shelf.faults c.args.shelf.now c.storm_fold.new.shelf)
    (sink_use g.K.Sink.taken g.K.Sink.faults c.args.out.now c.storm_fold.new.out)
    (run_use (maker_use g.M.C.CellStore.tells g.M.C.CellStore.fault_count g.M.StoreMaker.holds g.M.StoreMaker.has_made g.M.StoreMaker.fault_count c.args.stores.now c.args.stores.now) (g.N.IdMaker.tells c.args.ids.now))
    (ticks_use g.T.Ticks.handed_out g.T.Ticks.tells c.args.ticks.now c.args.ticks.now) (g.V.Avail.tells c.args.avail.now)
    c.args.fates.now (command (map string_bytes c.args.words.now)) c.storm_fold.result
    c.in-Fold.topology.now c.in-Fold.input.now c.in-Fold.workers is c.requires (untouched g.M.C.CellStore.tells g.M.C.CellStore.fault_count g.M.StoreMaker.holds g.M.StoreMaker.has_made g.M.StoreMaker.fault_count c.args.stores.now) c.storm_fold.ensures.ends

pub returns-in-Ok-None-clause-ends : goal.returns-in-Ok-None-clause-ends
returns-in-Ok-None-clause-ends g c =
    let is : command (map string_bytes c.args.words.now) ≡ None = search rules in
    ends_words
    (g.O.RowOp.meaning c.args.custom.now)
    (shelf_use g.H.Shelf.holds g.H.Shelf.ready g.H.Shelf.fetches g.H.Shelf.faults c.args.shelf.now c.args.shelf.now)
    (sink_use g.K.Sink.taken g.K.Sink.faults c.args.out.now c.write_text.new.out)
    (run_use (maker_use g.M.C.CellStore.tells g.M.C.CellStore.fault_count g.M.StoreMaker.holds g.M.StoreMaker.has_made g.M.StoreMaker.fault_count c.args.stores.now c.args.stores.now) (g.N.IdMaker.tells c.args.ids.now))
    (ticks_use g.T.Ticks.handed_out g.T.Ticks.tells c.args.ticks.now c.args.ticks.now) (g.V.Avail.tells c.args.avail.now)
    c.args.fates.now (command (map string_bytes c.args.words.now)) c.write_text.result
    _ is (c.requires, untouched g.M.C.CellStore.tells g.M.C.CellStore.fault_count g.M.StoreMaker.holds g.M.StoreMaker.has_made g.M.StoreMaker.fault_count c.args.stores.now) refl c.as_bytes.ensures.value c.write_text.ensures.written
