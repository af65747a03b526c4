use Rattle.storm_answers.proofs.FileLemmas.{records_by_front, input_refused}
use Rattle.storm_answers.proofs.files.read_records.Goals as goal

pub returns-in-Ok-clause-records : goal.returns-in-Ok-clause-records
returns-in-Ok-clause-records g c =
    records_by_front _ _ _ _ _ _ _ c.in_ok-bytes.ensures.bytes c.as_slice.ensures c.spout_fields.ensures c.in-Ok.ensures.good

pub returns-clause-stop : goal.returns-clause-stop
returns-clause-stop g c =
    input_refused _ _ _ _ _ _ _ c.refused_input.result c.in_ok-bytes.ensures.bytes c.as_slice.ensures c.spout_fields.ensures c.in-Err.ensures.fault c.refused_input.ensures
