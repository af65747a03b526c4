use Rattle.storm_resume.specs.storm_answers.Outside.{shelf_use, sink_use}
use Rattle.storm_program.proofs.CauseLemmas.{check_answered}
use Rattle.storm_resume.proofs.storm_answers.EndLemmas.{ends_answer}
use Rattle.storm_program.proofs.program.storm_check.Goals as goal

pub returns-clause-ends : goal.returns-clause-ends
returns-clause-ends g c =
    ends_answer _ _ c.check_file-came.result _ c.check_file-came.ensures.done c.check_file-came.ensures.stop c.write_answer.ensures.done c.write_answer.ensures.stop

pub returns-clause-answered : goal.returns-clause-answered
returns-clause-answered g c =
    check_answered
    (shelf_use g.H.Shelf.holds g.H.Shelf.ready g.H.Shelf.fetches g.H.Shelf.faults c.args.shelf.now c.check_file-came.new.shelf)
    (sink_use g.K.Sink.taken g.K.Sink.faults c.args.out.now c.write_answer.new.out)
    c.args.topology.now c.write_answer.result (returns-clause-ends g c)
