use Rattle.storm_resume.specs.storm_answers.Outside.{run_use, shelf_use, sink_use}
use Rattle.storm_program.proofs.CauseLemmas.{replay_answered}
use Rattle.storm_resume.proofs.storm_answers.EndLemmas.{done_or_short, ends_answer}
use Rattle.storm_resume.specs.stored_runs.Makers.{maker_use}
use Rattle.storm_program.proofs.program.storm_replay.Goals as goal

pub returns-clause-ends : goal.returns-clause-ends
returns-clause-ends g c =
    ends_answer _ _ c.replay_files-came.result _ c.replay_files-came.ensures.done c.replay_files-came.ensures.stop c.write_answer.ensures.done c.write_answer.ensures.stop

pub returns-clause-answered : goal.returns-clause-answered
returns-clause-answered g c =
    replay_answered
    (g.O.RowOp.meaning c.args.custom.now)
    (shelf_use g.H.Shelf.holds g.H.Shelf.ready g.H.Shelf.fetches g.H.Shelf.faults c.args.shelf.now c.replay_files-came.new.shelf)
    (sink_use g.K.Sink.taken g.K.Sink.faults c.args.out.now c.write_answer.new.out)
    (run_use (maker_use g.M.C.CellStore.tells g.M.C.CellStore.fault_count g.M.StoreMaker.holds g.M.StoreMaker.has_made g.M.StoreMaker.fault_count c.args.stores.now c.replay_files-came.new.stores) (g.N.IdMaker.tells c.args.ids.now))
    c.args.topology.now c.args.input.now c.args.schedule.now c.replay_files-came.new.fates c.write_answer.result (returns-clause-ends g c)

pub returns-clause-finishes : goal.returns-clause-finishes
returns-clause-finishes g c = λ must.
    done_or_short c.replay_files-came.result _ c.write_answer.result must.1 (c.replay_files-came.ensures.finishes must.0) c.write_answer.ensures.done c.write_answer.ensures.stop
