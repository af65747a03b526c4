use Rattle.storm_resume.proofs.storm_answers.EndLemmas.{done_or_short, ends_answer}
use Rattle.storm_program.proofs.program.storm_load.Goals as goal

pub returns-clause-ends : goal.returns-clause-ends
returns-clause-ends g c =
    ends_answer _ _ c.load_records_of-came.result _ c.load_records_of-came.ensures.done c.load_records_of-came.ensures.stop c.write_answer.ensures.done c.write_answer.ensures.stop

pub returns-clause-finishes : goal.returns-clause-finishes
returns-clause-finishes g c = λ must.
    done_or_short c.load_records_of-came.result _ c.write_answer.result must.1 (c.load_records_of-came.ensures.finishes must.0) c.write_answer.ensures.done c.write_answer.ensures.stop
