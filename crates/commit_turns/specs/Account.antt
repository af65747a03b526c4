-- The coordinator's account, read off its desk and the fates.
use Rattle.std.specs.Prelude.{List, map}
use Rattle.attempt_fates.specs.declared.fates.Attempt.{Attempt}
use Rattle.attempt_fates.specs.declared.fates.End.{End}
use Rattle.attempt_fates.specs.declared.fates.End.TheVariants as end
use Rattle.attempt_fates.specs.Fates.{records_in}
use Rattle.commit_turns.specs.declared.wait.Wait.{Wait}
use Rattle.commit_turns.specs.Desks.{Desk}
use Rattle.replay_pending.specs.InFlight.{tried}
use Rattle.record_spans.specs.declared.span.Span.{Span}
use Rattle.tuple_account.specs.storm_values.declared.value.Value.{Value}
use Rattle.taken_records.specs.Cuts.{Cut}
use Rattle.tuple_account.specs.Ends as account
use Rattle.tuple_account.specs.Ends.{Ending, Ended, Waits}

abbrev pub ending_of : End → Ending
ending_of (end.Committed list) = account.committed list
ending_of (end.Failed path) = account.failed path
ending_of end.TimedOut = account.timed_out
ending_of (end.Coincided list) = account.coincided list
ending_of (end.CommitFailed component part before after) =
    account.commit_failed component part before after
ending_of (end.Dropped by) = account.dropped by

abbrev pub ended_of : Attempt → Ended
ended_of a =
    record { root = a.root; start = a.start; finish = a.finish; ending = ending_of a.end }

abbrev pub ends_of : List Attempt → List Ended
ends_of fates = map ended_of fates

abbrev pub waits_of : Wait → Waits
waits_of w = record { root = w.root; start = w.start; settled = w.settled }

abbrev pub desk_of : Cut → Desk → account.Desk
desk_of cut d = record {
  tick = d.tick;
  start = cut.start;
  committed = d.committed;
  tries = λ txid. (tried txid d.tries).begun;
  pending = map waits_of d.pending;
}

-- the rows of some spans
abbrev pub rows_at : Cut → List Span → List (List Value)
rows_at cut spans = records_in cut.records spans
