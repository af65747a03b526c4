use Rattle.storm_resume.specs.storm_answers.Outside.{shelf_use, sink_use}
use Rattle.storm_program.proofs.CauseLemmas.{plain_answered}
use Rattle.storm_resume.proofs.storm_answers.EndLemmas.{ends_answer}
use Rattle.storm_program.proofs.fold.storm_fold.Goals as goal

pub returns-clause-ends : goal.returns-clause-ends
returns-clause-ends g c =
    ends_answer _ _ c.fold_files-came.result _ c.fold_files-came.ensures.done c.fold_files-came.ensures.stop c.write_answer.ensures.done c.write_answer.ensures.stop

pub returns-clause-answered : goal.returns-clause-answered
returns-clause-answered g c =
    plain_answered
    (g.O.RowOp.meaning c.args.custom.now)
    (shelf_use g.H.Shelf.holds g.H.Shelf.ready g.H.Shelf.fetches g.H.Shelf.faults c.args.shelf.now c.fold_files-came.new.shelf)
    (sink_use g.K.Sink.taken g.K.Sink.faults c.args.out.now c.write_answer.new.out)
    c.args.topology.now c.args.input.now c.write_answer.result (returns-clause-ends g c)
