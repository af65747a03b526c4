use Rattle.std.proofs.Common.{List, sym, subst, arith}
use Rattle.box_account.proofs.Hearing.{inboxes-wait}
use Rattle.box_account.proofs.Verdicts.{ends_tell}
use Rattle.box_account.specs.Telling.{TellsEnd}
use Rattle.event_worlds.specs.attempt_fates.declared.fates.Attempt.{Attempt}
use Rattle.event_worlds.specs.commit_turns.Account.{desk_of, rows_at}
use Rattle.event_worlds.specs.Accounted.{BeganWith, station_of}
use Rattle.event_worlds.specs.Beside.{waits}
use Rattle.event_worlds.proofs.counted_items.Each.{each-both, each-weaker}
use Rattle.event_worlds.specs.storm_values.declared.value.Value.{Value}
use Rattle.event_worlds.specs.tuple_account.Histories.{rows_in}
use Rattle.event_worlds.specs.tuple_account.Moves.{beside}
use Rattle.event_worlds.proofs.tuple_account.Reading.{rows_are_found}
use Rattle.box_account.proofs.laws.boxes_tell_of_ends.Goals as goal

pub returns : goal.returns
returns c = λ t custom cut words weight h k row led through took heard.
    let all = beside (waits weight) (station_of k) in
    let tell =
    ends_tell t custom h all led.reached (rows_in h.begun) (rows_are_found t custom h all led.reached) row took
    (λ f. let e = through f in omega arith) (λ f. let e = through f in let w = inboxes-wait f k in omega arith)
    (desk_of cut k.world.desk) k.world.fates led.fits heard in
    each-weaker (λ (a : Attempt). TellsEnd t custom row (rows_in h.begun a.root) a.root a.end × BeganWith cut h.begun a.root a.spans)
    (λ (a : Attempt). TellsEnd t custom row (rows_at cut a.spans) a.root a.end)
    (λ a both. subst (λ (rows : List (List Value)). TellsEnd t custom row rows a.root a.end) (sym both.1) both.0) k.world.fates
    (each-both (λ (a : Attempt). TellsEnd t custom row (rows_in h.begun a.root) a.root a.end) (λ (a : Attempt). BeganWith cut h.begun a.root a.spans) k.world.fates tell led.spans.ends)
