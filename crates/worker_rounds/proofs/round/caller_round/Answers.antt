use Rattle.std.proofs.Common.{◌≡◌, ◌<◌, [], ◌∷◌, ◌++◌, append-nil, length, refl, sym, subst, ◌∙◌, arith}
use Rattle.event_worlds.specs.attempt_fates.Fates.{IsOnce}
use Rattle.event_worlds.specs.commit_turns.Turns.{last_tick}
use Rattle.worker_stretches.specs.event_engine.Engines.{cut_in}
use Rattle.pulse_board.specs.Seats.{book_of}
use Rattle.schedule_core.proofs.Drives.{wants-still}
use Rattle.schedule_core.proofs.Following.{follows-same, follows-then, followed-handed, followed-short, followed-then, taken_still}
use Rattle.schedule_core.specs.declared.fault.RunFault.TheVariants as fault
use Rattle.event_worlds.specs.taken_records.Cuts.{Cut}
use Rattle.worker_rounds.proofs.Calling.{by-fault, handed-back, handed-on, in-time, is-short, kept-none, no-stop, on-err, on-here, once-still, parts-there, ready-after, ready-closed, ready-own, rests-opened}
use Rattle.worker_rounds.proofs.Driving.{breaks-round, broken-round, drives-round, stopped-round, stops-round, wants-closed, wants-swept}
use Rattle.worker_rounds.proofs.Going.{moves-by, runs-quiet, runs-then}
use Rattle.worker_rounds.proofs.Offering.{offered-part, offered-still}
use Rattle.worker_rounds.proofs.Rounds.{runs-round, ticked}
use Rattle.worker_rounds.specs.Running.{round_by}
use Rattle.worker_rounds.proofs.round.caller_round.Goals as goal
use Rattle.worker_turns.proofs.Stands.{goes-carried, idle-still}

pub close_round_beside-requires-clause-at_rest : goal.close_round_beside-requires-clause-at_rest
close_round_beside-requires-clause-at_rest g c = λ lives bounds.
    rests-opened c.args.posts.now.plan.now (cut_in c.args.engine.now) c.args.engine.now c.open_round.new.engine c.in_ok-open_round.ensures.ready c.requires.gathered.idle c.open_round.ensures.still

pub close_round_beside-requires-clause-parts : goal.close_round_beside-requires-clause-parts
close_round_beside-requires-clause-parts g c = λ lives bounds.
    parts-there c.args.posts.now.plan.now (cut_in c.args.engine.now) c.open_round.new.engine c.args.parts.now c.in_ok-open_round.ensures.ready c.requires.parts

pub sweep-requires-clause-ready : goal.sweep-requires-clause-ready
sweep-requires-clause-ready g c =
    let t = c.args.posts.now.plan.now in
    let cut = cut_in c.args.engine.now in
    let new = c.close_round_beside.new.engine in
    ready-own t cut new (ready-closed t cut c.open_round.new.engine new c.in_ok-open_round.ensures.ready c.in_ok-close_round_beside.ensures.same_run c.in_ok-close_round_beside.ensures.at_rest)

pub returns-clause-gathered : goal.returns-clause-gathered
returns-clause-gathered g c =
    let t = c.args.posts.now.plan.now in
    let old = c.args.engine.now in
    let cut = cut_in old in
    let custom = g.O.RowOp.meaning c.args.custom.now in
    let opened = c.open_round.new.engine in
    let closed = c.close_round_beside.new.engine in
    let end = c.sweep.new.engine in
    let was = c.requires.gathered in
    let steps_laws = c.laws_of_steps.ensures t custom cut in
    let ready = ready-closed t cut opened closed c.in_ok-open_round.ensures.ready c.in_ok-close_round_beside.ensures.same_run c.in_ok-close_round_beside.ensures.at_rest in
    let drives = drives-round g.I.Ids.tells g.C.CellStore.tells g.C.CellStore.fault_count t custom cut steps_laws c.args.shut c.args.passed old opened c.in_ok-open_round.ensures.ready c.in_ok-open_round.ensures.goes c.open_round.ensures.still c.args.parts.now closed c.close_round_beside.new.parts (c.in_ok-close_round_beside.ensures.drives) in record {
      ready = ready-after t cut closed end ready c.in_ok-sweep.ensures.ready;
      idle = idle-still closed end c.sweep.ensures.still c.in_ok-close_round_beside.ensures.at_rest.idle;
      swept = c.in_ok-sweep.ensures.swept;
      fit = c.sweep.ensures.row;
      empty = c.in_ok-sweep.ensures.empty;
      room = c.sweep.ensures.room;
      whole = c.tick_board.ensures.seat;
      in_time = in-time old.tick end.tick c.args.passed (length (book_of c.args.seat.now).drawn) (length (book_of c.tick_board.new.seat).drawn) was.in_time
          (c.in_ok-sweep.ensures.carries.carries.arranged.tick ∙ ticked g.I.Ids.tells t custom cut c.args.shut c.args.passed old closed was.ready c.requires.goes_on (let e = was.in_time in omega arith) drives.goes) c.tick_board.ensures.drawn;
    }

pub returns-clause-ticked : goal.returns-clause-ticked
returns-clause-ticked g c =
    let t = c.args.posts.now.plan.now in
    let old = c.args.engine.now in
    let cut = cut_in old in
    let custom = g.O.RowOp.meaning c.args.custom.now in
    let opened = c.open_round.new.engine in
    let closed = c.close_round_beside.new.engine in
    let was = c.requires.gathered in
    let steps_laws = c.laws_of_steps.ensures t custom cut in
    let drives = drives-round g.I.Ids.tells g.C.CellStore.tells g.C.CellStore.fault_count t custom cut steps_laws c.args.shut c.args.passed old opened c.in_ok-open_round.ensures.ready c.in_ok-open_round.ensures.goes c.open_round.ensures.still c.args.parts.now closed c.close_round_beside.new.parts (c.in_ok-close_round_beside.ensures.drives) in
    c.in_ok-sweep.ensures.carries.carries.arranged.tick ∙ ticked g.I.Ids.tells t custom cut c.args.shut c.args.passed old closed was.ready c.requires.goes_on (let e = was.in_time in omega arith) drives.goes

pub returns-clause-runs : goal.returns-clause-runs
returns-clause-runs g c =
    let t = c.args.posts.now.plan.now in
    let old = c.args.engine.now in
    let cut = cut_in old in
    let custom = g.O.RowOp.meaning c.args.custom.now in
    let opened = c.open_round.new.engine in
    let closed = c.close_round_beside.new.engine in
    let end = c.sweep.new.engine in
    let row = c.args.row.now.items in
    let swept_row = c.sweep.new.row.items in
    let parts = c.args.parts.now in
    let new_parts = c.close_round_beside.new.parts in
    let was = c.requires.gathered in
    let tells = g.I.Ids.tells in
    let holds = g.C.CellStore.tells in
    let count = g.C.CellStore.fault_count in
    let steps_laws = c.laws_of_steps.ensures t custom cut in
    let round_laws = c.laws_of_rounds.ensures t custom cut in
    let ready = ready-closed t cut opened closed c.in_ok-open_round.ensures.ready c.in_ok-close_round_beside.ensures.same_run c.in_ok-close_round_beside.ensures.at_rest in
    let ready_end = ready-after t cut closed end ready c.in_ok-sweep.ensures.ready in
    let drives = drives-round tells holds count t custom cut steps_laws c.args.shut c.args.passed old opened c.in_ok-open_round.ensures.ready c.in_ok-open_round.ensures.goes c.open_round.ensures.still parts closed new_parts (c.in_ok-close_round_beside.ensures.drives) in
    let none : Type 0 = 0 < t.partitions → c.args.shut ≡ 0 in
    runs-then tells holds count t custom cut steps_laws none 1 0 old closed end row row swept_row parts new_parts new_parts
    (runs-round tells t custom cut round_laws old closed row was.ready was.swept was.empty c.args.shut c.args.passed holds count parts new_parts ready c.requires.goes_on (let e = was.in_time in omega arith) drives)
    (runs-quiet tells holds count t custom cut steps_laws none 0 closed end row swept_row new_parts c.sweep.ensures.still
    (moves-by tells t custom cut none 0 closed end row swept_row (goes-carried tells t custom cut closed end row swept_row ready_end.orderly c.in_ok-sweep.ensures.carries)))

pub returns-in_err-close_round_beside-clause-bad : goal.returns-in_err-close_round_beside-clause-bad
returns-in_err-close_round_beside-clause-bad g c = λ key is.
    let t = c.args.posts.now.plan.now in
    let old = c.args.engine.now in
    let cut = cut_in old in
    let custom = g.O.RowOp.meaning c.args.custom.now in
    let opened = c.open_round.new.engine in
    let closed = c.close_round_beside.new.engine in
    let was = c.requires.gathered in
    let tells = g.I.Ids.tells in
    let holds = g.C.CellStore.tells in
    let count = g.C.CellStore.fault_count in
    let steps_laws = c.laws_of_steps.ensures t custom cut in
    let exits = c.from_residual-in_err-close_round_beside in
    broken-round tells holds count t custom cut (c.laws_of_rounds.ensures t custom cut) old closed c.args.row.now.items was.ready was.swept was.empty c.args.shut c.args.passed c.args.parts.now c.close_round_beside.new.parts key
    (breaks-round tells holds count t custom cut steps_laws c.args.shut c.args.passed old opened c.in_ok-open_round.ensures.ready c.in_ok-open_round.ensures.goes c.open_round.ensures.still c.args.parts.now key closed c.close_round_beside.new.parts
    (c.close_round_beside.ensures.bad key (handed-on exits.result c.close_round_beside.result _ (fault.BadCell key) exits.ensures.1 c.in_err-close_round_beside.was is)))

pub returns-in_err-close_round_beside-clause-failed : goal.returns-in_err-close_round_beside-clause-failed
returns-in_err-close_round_beside-clause-failed g c = λ txid is.
    let t = c.args.posts.now.plan.now in
    let old = c.args.engine.now in
    let cut = cut_in old in
    let custom = g.O.RowOp.meaning c.args.custom.now in
    let opened = c.open_round.new.engine in
    let closed = c.close_round_beside.new.engine in
    let was = c.requires.gathered in
    let tells = g.I.Ids.tells in
    let holds = g.C.CellStore.tells in
    let count = g.C.CellStore.fault_count in
    let steps_laws = c.laws_of_steps.ensures t custom cut in
    let exits = c.from_residual-in_err-close_round_beside in
    stopped-round tells holds count t custom cut (c.laws_of_rounds.ensures t custom cut) old closed c.args.row.now.items was.ready was.swept was.empty c.args.shut c.args.passed c.args.parts.now c.close_round_beside.new.parts txid
    (stops-round tells holds count t custom cut steps_laws c.args.shut c.args.passed old opened c.in_ok-open_round.ensures.ready c.in_ok-open_round.ensures.goes c.open_round.ensures.still c.args.parts.now txid closed c.close_round_beside.new.parts
    (c.close_round_beside.ensures.failed txid (handed-on exits.result c.close_round_beside.result _ (fault.Follow txid) exits.ensures.1 c.in_err-close_round_beside.was is)))

pub returns-in_err-open_round-clause-drawn_back : goal.returns-in_err-open_round-clause-drawn_back
returns-in_err-open_round-clause-drawn_back g c = λ stopped. absurd (no-stop c.from_residual.result _ c.from_residual.ensures.1 refl stopped)

pub returns-in_err-sweep-clause-row_back : goal.returns-in_err-sweep-clause-row_back
returns-in_err-sweep-clause-row_back g c = λ stopped. absurd (no-stop c.from_residual-in_err-sweep.result _ c.from_residual-in_err-sweep.ensures.1 refl stopped)

pub returns-in_err-open_round-clause-short : goal.returns-in_err-open_round-clause-short
returns-in_err-open_round-clause-short g c = λ is.
    let t = c.args.posts.now.plan.now in
    let old = c.args.engine.now in
    let custom = g.O.RowOp.meaning c.args.custom.now in
    wants-still g.I.Ids.tells g.C.CellStore.tells g.C.CellStore.fault_count t custom (cut_in old) (c.laws_of_steps.ensures t custom (cut_in old)) old c.open_round.new.engine.fates c.args.parts.now c.open_round.ensures.still.fates

pub returns-in_err-close_round_beside-clause-short : goal.returns-in_err-close_round_beside-clause-short
returns-in_err-close_round_beside-clause-short g c = λ is.
    let t = c.args.posts.now.plan.now in
    let old = c.args.engine.now in
    let custom = g.O.RowOp.meaning c.args.custom.now in
    let exits = c.from_residual-in_err-close_round_beside in
    wants-closed g.I.Ids.tells g.C.CellStore.tells g.C.CellStore.fault_count t custom (cut_in old) (c.laws_of_steps.ensures t custom (cut_in old)) c.args.shut c.args.passed old c.open_round.new.engine c.in_ok-open_round.ensures.ready c.in_ok-open_round.ensures.goes c.open_round.ensures.still c.args.parts.now c.close_round_beside.new.engine.fates c.close_round_beside.new.parts
    (c.close_round_beside.ensures.short (handed-on exits.result c.close_round_beside.result _ fault.Memory exits.ensures.1 c.in_err-close_round_beside.was is))

pub returns-in_err-sweep-clause-short : goal.returns-in_err-sweep-clause-short
returns-in_err-sweep-clause-short g c = λ is.
    let t = c.args.posts.now.plan.now in
    let old = c.args.engine.now in
    let cut = cut_in old in
    let custom = g.O.RowOp.meaning c.args.custom.now in
    let tells = g.I.Ids.tells in
    let holds = g.C.CellStore.tells in
    let count = g.C.CellStore.fault_count in
    let laws = c.laws_of_steps.ensures t custom cut in
    let closed = c.close_round_beside.new.engine in
    wants-swept tells holds count t custom cut laws (round_by t c.args.shut c.args.passed) old closed c.sweep.new.engine c.args.parts.now c.close_round_beside.new.parts
    (drives-round tells holds count t custom cut laws c.args.shut c.args.passed old c.open_round.new.engine c.in_ok-open_round.ensures.ready c.in_ok-open_round.ensures.goes c.open_round.ensures.still c.args.parts.now closed c.close_round_beside.new.parts (c.in_ok-close_round_beside.ensures.drives))
    c.sweep.ensures.still

pub returns-in_err-open_round-clause-once : goal.returns-in_err-open_round-clause-once
returns-in_err-open_round-clause-once g c =
    on-err c.from_residual.result (once-still c.args.posts.now.plan.now (cut_in c.args.engine.now) c.args.engine.now c.open_round.new.engine c.requires.gathered.ready c.open_round.ensures.still)

pub returns-in_err-close_round_beside-clause-once : goal.returns-in_err-close_round_beside-clause-once
returns-in_err-close_round_beside-clause-once g c =
    on-err c.from_residual-in_err-close_round_beside.result (subst (λ (k : Cut). IsOnce k last_tick c.close_round_beside.new.engine.fates) c.in_ok-open_round.ensures.ready.seated.of_cut c.in_err-close_round_beside.ensures.once)

pub returns-in_err-sweep-clause-once : goal.returns-in_err-sweep-clause-once
returns-in_err-sweep-clause-once g c =
    let t = c.args.posts.now.plan.now in
    let cut = cut_in c.args.engine.now in
    let closed = c.close_round_beside.new.engine in
    on-err c.from_residual-in_err-sweep.result
    (once-still t cut closed c.sweep.new.engine (ready-closed t cut c.open_round.new.engine closed c.in_ok-open_round.ensures.ready c.in_ok-close_round_beside.ensures.same_run c.in_ok-close_round_beside.ensures.at_rest) c.sweep.ensures.still)

pub returns-in_err-open_round-clause-kept : goal.returns-in_err-open_round-clause-kept
returns-in_err-open_round-clause-kept g c = kept-none g.C.CellStore.tells c.args.parts.now

-- ---- a follower

pub close_round_beside-requires-clause-takes : goal.close_round_beside-requires-clause-takes
close_round_beside-requires-clause-takes g c = λ lives bounds. taken_still c.args.engine.now c.open_round.new.engine (g.W.Follow.takes c.args.follow.now) c.open_round.ensures.still c.requires.takes

pub returns-clause-takes : goal.returns-clause-takes
returns-clause-takes g c = taken_still c.close_round_beside.new.engine c.sweep.new.engine (g.W.Follow.takes c.close_round_beside.new.follow) c.sweep.ensures.still c.in_ok-close_round_beside.ensures.takes

pub returns-clause-followed : goal.returns-clause-followed
returns-clause-followed g c =
    let tells = g.W.Follow.tells in
    let count = g.W.Follow.fault_count in
    let old = c.args.engine.now.fates in
    let opened = c.open_round.new.engine.fates in
    let closed = c.close_round_beside.new.engine.fates in
    let end = c.sweep.new.engine.fates in
    let was = c.args.follow.now in
    let is = c.close_round_beside.new.follow in
    follows-then tells count old closed end was is is
    (follows-then tells count old opened closed was was is (follows-same tells count old opened was c.open_round.ensures.still.fates) c.in_ok-close_round_beside.ensures.followed)
    (follows-same tells count closed end is c.sweep.ensures.still.fates)

pub returns-in_err-open_round-clause-followed : goal.returns-in_err-open_round-clause-followed
returns-in_err-open_round-clause-followed g c = followed-short g.W.Follow.tells g.W.Follow.fault_count c.from_residual.result c.args.engine.now.fates c.open_round.new.engine.fates c.args.follow.now c.args.follow.now c.from_residual.ensures.1 refl

pub returns-in_err-close_round_beside-clause-followed : goal.returns-in_err-close_round_beside-clause-followed
returns-in_err-close_round_beside-clause-followed g c =
    let tells = g.W.Follow.tells in
    let count = g.W.Follow.fault_count in
    let old = c.args.engine.now.fates in
    let opened = c.open_round.new.engine.fates in
    let closed = c.close_round_beside.new.engine.fates in
    let was = c.args.follow.now in
    let is = c.close_round_beside.new.follow in
    let exits = c.from_residual-in_err-close_round_beside in
    followed-handed tells count exits.result c.close_round_beside.result _ old closed was is exits.ensures.1 c.in_err-close_round_beside.was
    (followed-then tells count c.close_round_beside.result old opened closed was was is (follows-same tells count old opened was c.open_round.ensures.still.fates) c.close_round_beside.ensures.followed)

pub returns-in_err-sweep-clause-followed : goal.returns-in_err-sweep-clause-followed
returns-in_err-sweep-clause-followed g c =
    followed-short g.W.Follow.tells g.W.Follow.fault_count c.from_residual-in_err-sweep.result c.args.engine.now.fates c.sweep.new.engine.fates c.args.follow.now c.close_round_beside.new.follow c.from_residual-in_err-sweep.ensures.1 c.in_ok-close_round_beside.ensures.followed.quiet

-- ---- what is offered

pub returns-clause-offered : goal.returns-clause-offered
returns-clause-offered g c = λ had input some shuts has.
    let t = c.args.posts.now.plan.now in
    let old = c.args.engine.now in
    let cut = cut_in old in
    let custom = g.O.RowOp.meaning c.args.custom.now in
    let closed = c.close_round_beside.new.engine in
    let whole = round_by t c.args.shut c.args.passed in
    let drives = drives-round g.I.Ids.tells g.C.CellStore.tells g.C.CellStore.fault_count t custom cut (c.laws_of_steps.ensures t custom cut) c.args.shut c.args.passed old c.open_round.new.engine c.in_ok-open_round.ensures.ready c.in_ok-open_round.ensures.goes c.open_round.ensures.still c.args.parts.now closed c.close_round_beside.new.parts (c.in_ok-close_round_beside.ensures.drives) in
    offered-still t.partitions (shuts ++ c.args.shut ∷ []) closed c.sweep.new.engine c.sweep.ensures.still
    (offered-part g.I.Ids.tells t custom cut input some c.args.shut c.args.passed old closed whole [] (sym (append-nil whole)) (on-here t cut old c.requires.gathered.ready c.requires.goes_on) drives.goes shuts has)

pub returns-in_err-open_round-clause-offered : goal.returns-in_err-open_round-clause-offered
returns-in_err-open_round-clause-offered g c = λ had input some shuts has. absurd (had (is-short c.from_residual.result _ c.from_residual.ensures.1 refl))

pub returns-in_err-sweep-clause-offered : goal.returns-in_err-sweep-clause-offered
returns-in_err-sweep-clause-offered g c = λ had input some shuts has. absurd (had (is-short c.from_residual-in_err-sweep.result _ c.from_residual-in_err-sweep.ensures.1 refl))

pub returns-in_err-close_round_beside-clause-offered : goal.returns-in_err-close_round_beside-clause-offered
returns-in_err-close_round_beside-clause-offered g c = λ had input some shuts has.
    let t = c.args.posts.now.plan.now in
    let old = c.args.engine.now in
    let cut = cut_in old in
    let custom = g.O.RowOp.meaning c.args.custom.now in
    let opened = c.open_round.new.engine in
    let closed = c.close_round_beside.new.engine in
    let tells = g.I.Ids.tells in
    let holds = g.C.CellStore.tells in
    let count = g.C.CellStore.fault_count in
    let laws = c.laws_of_steps.ensures t custom cut in
    let on = on-here t cut old c.requires.gathered.ready c.requires.goes_on in
    let shut = c.args.shut in
    let passed = c.args.passed in
    let exits = c.from_residual-in_err-close_round_beside in
    by-fault c.close_round_beside.result _ c.in_err-close_round_beside.was
    (λ key is.
    let breaks = breaks-round tells holds count t custom cut laws shut passed old opened c.in_ok-open_round.ensures.ready c.in_ok-open_round.ensures.goes c.open_round.ensures.still c.args.parts.now key closed c.close_round_beside.new.parts (c.close_round_beside.ensures.bad key is) in
    offered-part tells t custom cut input some shut passed old closed breaks.steps breaks.rest breaks.first on breaks.drives.goes shuts has)
    (λ txid is.
    let stops = stops-round tells holds count t custom cut laws shut passed old opened c.in_ok-open_round.ensures.ready c.in_ok-open_round.ensures.goes c.open_round.ensures.still c.args.parts.now txid closed c.close_round_beside.new.parts (c.close_round_beside.ensures.failed txid is) in
    offered-part tells t custom cut input some shut passed old closed stops.steps stops.rest stops.first on stops.drives.goes shuts has)
    (λ is. had (handed-back exits.result c.close_round_beside.result _ fault.Memory exits.ensures.1 c.in_err-close_round_beside.was is))
