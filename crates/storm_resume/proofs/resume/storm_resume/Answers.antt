use Rattle.storm_answers.proofs.EndLemmas.{ends_answer}
use Rattle.storm_answers.specs.Outside.{run_use, shelf_use, sink_use, ticks_use}
use Rattle.storm_answers.specs.stored_runs.Makers.{maker_use}
use Rattle.storm_resume.proofs.Calling.{resume_answered}
use Rattle.storm_resume.specs.Keeping.{keeper_use}
use Rattle.storm_resume.proofs.resume.storm_resume.Goals as goal

pub returns-clause-ends : goal.returns-clause-ends
returns-clause-ends g c =
    ends_answer _ _ c.resume_files-came.result _ c.resume_files-came.ensures.done c.resume_files-came.ensures.stop c.write_answer.ensures.done c.write_answer.ensures.stop

pub returns-clause-answered : goal.returns-clause-answered
returns-clause-answered g c =
    resume_answered c.metas_have_texts_of_their_own.ensures
    (g.O.RowOp.meaning c.args.custom.now)
    (shelf_use g.H.Shelf.holds g.H.Shelf.ready g.H.Shelf.fetches g.H.Shelf.faults c.args.shelf.now c.resume_files-came.new.shelf)
    (sink_use g.K.Sink.taken g.K.Sink.faults c.args.out.now c.write_answer.new.out)
    (run_use (maker_use g.M.C.CellStore.tells g.M.C.CellStore.fault_count g.M.StoreMaker.holds g.M.StoreMaker.has_made g.M.StoreMaker.fault_count c.args.stores.now c.resume_files-came.new.stores) (g.N.IdMaker.tells c.args.ids.now))
    (keeper_use g.P.Keeper.holds g.P.Keeper.fault_count c.args.keeper.now.keeper c.resume_files-came.new.keeper.keeper)
    (ticks_use g.T.Ticks.handed_out g.T.Ticks.tells c.args.ticks.now c.resume_files-came.new.ticks)
    c.args.topology.now c.args.input.now c.resume_files-came.new.fates c.write_answer.result (returns-clause-ends g c)
