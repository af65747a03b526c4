use Rattle.storm_answers.proofs.FileLemmas.{events_by_front, schedule_refused}
use Rattle.storm_answers.proofs.schedule.read_events.Goals as goal

pub returns-in-Ok-clause-events : goal.returns-in-Ok-clause-events
returns-in-Ok-clause-events g c =
    events_by_front c.one_byte_past_the_limit_suffices.ensures.fault c.one_byte_past_the_limit_suffices.ensures.events _ _ _ _ _ _ c.in_ok-bytes.ensures.bytes c.as_slice.ensures c.in-Ok.ensures.good

pub returns-clause-stop : goal.returns-clause-stop
returns-clause-stop g c =
    schedule_refused c.one_byte_past_the_limit_suffices.ensures.fault _ _ _ _ _ _ c.refused_schedule.result c.in_ok-bytes.ensures.bytes c.as_slice.ensures c.in-Err.ensures.fault c.refused_schedule.ensures
