use Rattle.std.proofs.Common.{◌≡◌, ◌∙◌, false, ap, refl, subst, sym}
use Rattle.worker_stretches.specs.box_rows.AllRows.{Row}
use Rattle.worker_stretches.specs.box_rows.FitRows.{IsFitRow}
use Rattle.worker_stretches.specs.event_engine.Engines.{cut_in, has_ended}
use Rattle.worker_rounds.proofs.Calling.{handed-back, handed-on, no-memory, no-stop, on-err}
use Rattle.worker_rounds.proofs.schedule_core.Following.{followed-handed, followed-short, followed-then, follows-same, follows-then, so_far-none, so_far-then, taken_still}
use Rattle.worker_rounds.specs.schedule_core.declared.fault.RunFault.TheVariants as fault
use Rattle.worker_runs.proofs.Few.{bounded-by}
use Rattle.worker_runs.proofs.Keeping.{gathered-own, kept-then, once-back, ready-back, ready-once}
use Rattle.worker_runs.proofs.Looping.{err-told, parts-now, stop-handed, turned-bad, turned-drew, turned-over, turned-short, turning-none, turning-round, turning-still}
use Rattle.worker_runs.proofs.run.run_on.Goals as goal

pub loop-init : goal.loop-init
loop-init g c =
    let t = c.args.posts.now.plan.now in
    let custom = g.O.RowOp.meaning c.args.custom.now in
    let cut = cut_in c.args.engine.now in
    record {
      turning = turning-none g.I.Ids.tells g.C.CellStore.tells g.C.CellStore.fault_count g.T.Ticks.handed_out g.T.Ticks.tells g.V.Avail.tells t custom cut c.args.avail.now c.args.posts.now.boxes.items c.args.board.now (c.laws_of_steps.ensures t custom cut)
          c.args.engine.now c.args.row.now.items c.args.parts.now c.args.ticks.now c.args.seat.now c.requires.gathered c.requires.no_tick;
      told = so_far-none g.W.Follow.tells g.W.Follow.takes g.W.Follow.fault_count c.args.engine.now c.args.follow.now c.requires.takes;
    }

pub caller_round-requires-clause-gathered : goal.caller_round-requires-clause-gathered
caller_round-requires-clause-gathered g c = λ lives bounds.
    gathered-own c.args.posts.now.plan.now c.args.posts.now.boxes.items c.args.board.now (cut_in c.args.engine.now) c.loop.engine c.loop.row.items c.loop.seat c.loop.invariant.turning.gathered

pub caller_round-requires-clause-parts : goal.caller_round-requires-clause-parts
caller_round-requires-clause-parts g c = λ lives bounds.
    let t = c.args.posts.now.plan.now in
    let custom = g.O.RowOp.meaning c.args.custom.now in
    let cut = cut_in c.args.engine.now in
    parts-now g.I.Ids.tells g.C.CellStore.tells g.C.CellStore.fault_count g.T.Ticks.handed_out g.T.Ticks.tells g.V.Avail.tells t custom cut c.args.avail.now c.args.posts.now.boxes.items c.args.board.now (c.laws_of_steps.ensures t custom cut)
    c.args.engine.now c.args.row.now.items c.args.parts.now c.args.ticks.now c.loop.engine c.loop.row.items c.loop.seat c.loop.parts c.loop.ticks c.loop.avail c.loop.invariant.turning c.requires.parts

pub caller_round-requires-clause-takes : goal.caller_round-requires-clause-takes
caller_round-requires-clause-takes g c = λ lives bounds. c.loop.invariant.told.taken

pub loop-preserved : goal.loop-preserved
loop-preserved g c =
    let t = c.args.posts.now.plan.now in
    let custom = g.O.RowOp.meaning c.args.custom.now in
    let cut = cut_in c.args.engine.now in
    let avail = c.args.avail.now in
    let boxes = c.args.posts.now.boxes.items in
    let board = c.args.board.now in
    let laws = c.laws_of_steps.ensures t custom cut in
    let e0 = c.args.engine.now in
    let row = c.args.row.now.items in
    let was = c.args.parts.now in
    let before = c.args.ticks.now in
    let mid = c.loop.engine in
    let b = c.caller_round.new.engine in
    let end = c.work_unless.new.engine in
    let asked = c.passed-passed.ensures in
    let opened = c.shut-shut.ensures in
    let round = c.in_ok-caller_round.ensures in
    let open_still : has_ended c.loop.engine ≡ false = sym c.is_over.ensures ∙ c.if-is_over.false in
    let avail_later = c.shut-shut.new.self in
    let next = turning-round g.I.Ids.tells g.C.CellStore.tells g.C.CellStore.fault_count g.T.Ticks.handed_out g.T.Ticks.tells g.V.Avail.tells t custom cut avail boxes board laws e0 row was before mid c.loop.row.items c.loop.seat c.loop.parts c.loop.ticks c.loop.avail c.loop.invariant.turning
    c.passed-passed.result c.passed-passed.new.self asked.counted asked.told asked.tells_the_rest c.shut-shut.result avail_later opened.told opened.tells_the_rest
    (bounded-by t custom cut (c.what_can_be_done_is_bounded.ensures t custom cut) (c.no_attempt_aborts_with_partitions.ensures t custom cut)) open_still b c.caller_round.new.row.items c.caller_round.new.seat c.caller_round.new.parts round.gathered round.ticked round.runs c.caller_round.ensures.kept (c.caller_round.ensures.offered (no-memory c.caller_round.result _ c.in_ok-caller_round.was)) in
    let tells = g.W.Follow.tells in
    let count = g.W.Follow.fault_count in
    let follow = c.caller_round.new.follow in
    record {
      turning =
          turning-still g.I.Ids.tells g.C.CellStore.tells g.C.CellStore.fault_count g.T.Ticks.handed_out g.T.Ticks.tells g.V.Avail.tells t custom cut avail boxes board laws e0 row was before b c.caller_round.new.row.items c.caller_round.new.seat c.caller_round.new.parts c.passed-passed.new.self avail_later next
          end c.work_unless.new.row.items c.work_unless.new.seat c.in_ok-work_unless.ensures.gathered c.in_ok-work_unless.ensures.ticks c.work_unless.ensures.still c.in_ok-work_unless.ensures.goes;
      told =
          so_far-then tells g.W.Follow.takes count e0 mid end c.args.follow.now c.loop.follow follow c.loop.invariant.told (taken_still b end (g.W.Follow.takes follow) c.work_unless.ensures.still round.takes)
          (follows-then tells count mid.fates b.fates end.fates c.loop.follow follow follow round.followed (follows-same tells count b.fates end.fates follow c.work_unless.ensures.still.fates));
    }

pub returns-in_err-caller_round-clause-ran : goal.returns-in_err-caller_round-clause-ran
returns-in_err-caller_round-clause-ran g c =
    let t = c.args.posts.now.plan.now in
    let custom = g.O.RowOp.meaning c.args.custom.now in
    let cut = cut_in c.args.engine.now in
    let avail = c.args.avail.now in
    let boxes = c.args.posts.now.boxes.items in
    let board = c.args.board.now in
    let laws = c.laws_of_steps.ensures t custom cut in
    let e0 = c.args.engine.now in
    let row = c.args.row.now.items in
    let was = c.args.parts.now in
    let before = c.args.ticks.now in
    let asked = c.passed-passed.ensures in
    let exits = c.from_residual in
    turned-bad g.I.Ids.tells g.C.CellStore.tells g.C.CellStore.fault_count g.T.Ticks.handed_out g.T.Ticks.tells g.V.Avail.tells t custom cut avail boxes board laws e0 row was before c.loop.engine c.loop.row.items c.loop.seat c.loop.parts c.loop.ticks c.loop.avail c.loop.invariant.turning
    c.passed-passed.result c.passed-passed.new.self asked.counted asked.told asked.tells_the_rest c.shut-shut.result c.shut-shut.new.self c.shut-shut.ensures.told c.shut-shut.ensures.tells_the_rest exits.result _ c.caller_round.new.engine c.caller_round.new.row.items c.caller_round.new.parts exits.ensures.1
    (λ stopped. ap (λ (r : Row). r.items) (c.caller_round.ensures.row_back (stop-handed exits.result c.caller_round.result _ exits.ensures.1 c.in_err-caller_round.was stopped)))
    (λ key is. c.caller_round.ensures.bad key (handed-on exits.result c.caller_round.result _ (fault.BadCell key) exits.ensures.1 c.in_err-caller_round.was is))
    (λ txid is. c.caller_round.ensures.failed txid (handed-on exits.result c.caller_round.result _ (fault.Follow txid) exits.ensures.1 c.in_err-caller_round.was is))
    (λ is. c.caller_round.ensures.short (handed-on exits.result c.caller_round.result _ fault.Memory exits.ensures.1 c.in_err-caller_round.was is))
    (λ had. c.caller_round.ensures.offered (λ is. had (handed-back exits.result c.caller_round.result _ fault.Memory exits.ensures.1 c.in_err-caller_round.was is)))

pub returns-in_err-caller_round-clause-once : goal.returns-in_err-caller_round-clause-once
returns-in_err-caller_round-clause-once g c =
    on-err c.from_residual.result
    (once-back c.args.posts.now.plan.now (cut_in c.args.engine.now) c.loop.engine c.caller_round.new.engine c.loop.invariant.turning.gathered.ready (err-told c.caller_round.result _ c.in_err-caller_round.was c.caller_round.ensures.once))

pub returns-in_err-caller_round-clause-kept : goal.returns-in_err-caller_round-clause-kept
returns-in_err-caller_round-clause-kept g c = kept-then g.C.CellStore.tells c.args.parts.now c.loop.parts c.caller_round.new.parts c.loop.invariant.turning.kept c.caller_round.ensures.kept

pub returns-in_err-caller_round-clause-back : goal.returns-in_err-caller_round-clause-back
returns-in_err-caller_round-clause-back g c = λ stopped.
    let t = c.args.posts.now.plan.now in
    let custom = g.O.RowOp.meaning c.args.custom.now in
    let cut = cut_in c.args.engine.now in
    let avail = c.args.avail.now in
    let boxes = c.args.posts.now.boxes.items in
    let board = c.args.board.now in
    let asked = c.passed-passed.ensures in
    let exits = c.from_residual in
    let met = stop-handed exits.result c.caller_round.result _ exits.ensures.1 c.in_err-caller_round.was stopped in record {
      row_is = subst (λ (r : Row). IsFitRow t boxes r.items) (sym (c.caller_round.ensures.row_back met)) c.loop.invariant.turning.gathered.fit;
      seat_is = c.caller_round.ensures.seat;
      drawn =
          turned-drew g.I.Ids.tells g.C.CellStore.tells g.C.CellStore.fault_count g.T.Ticks.handed_out g.T.Ticks.tells g.V.Avail.tells t custom cut avail boxes board (c.laws_of_steps.ensures t custom cut) c.args.engine.now c.args.row.now.items c.args.parts.now c.args.ticks.now
          c.loop.engine c.loop.row.items c.loop.seat c.loop.parts c.loop.ticks c.loop.avail c.loop.invariant.turning c.passed-passed.result c.passed-passed.new.self asked.counted asked.told asked.tells_the_rest c.caller_round.new.seat (c.caller_round.ensures.drawn_back met);
    }

pub returns-in_err-caller_round-clause-followed : goal.returns-in_err-caller_round-clause-followed
returns-in_err-caller_round-clause-followed g c =
    let tells = g.W.Follow.tells in
    let count = g.W.Follow.fault_count in
    let old = c.args.engine.now in
    let mid = c.loop.engine in
    let new = c.caller_round.new.engine in
    let exits = c.from_residual in
    followed-handed tells count exits.result c.caller_round.result _ old.fates new.fates c.args.follow.now c.caller_round.new.follow exits.ensures.1 c.in_err-caller_round.was
    (followed-then tells count c.caller_round.result old.fates mid.fates new.fates c.args.follow.now c.loop.follow c.caller_round.new.follow c.loop.invariant.told.follows c.caller_round.ensures.followed)

pub returns-in_err-work_unless-clause-back : goal.returns-in_err-work_unless-clause-back
returns-in_err-work_unless-clause-back g c = λ stopped.
    absurd (no-stop c.from_residual-in_err-work_unless.result fault.Memory c.from_residual-in_err-work_unless.ensures.1 refl stopped)

pub returns-then-is_over-clause-back : goal.returns-then-is_over-clause-back
returns-then-is_over-clause-back g c = λ stopped. absurd stopped

pub returns-in_err-work_unless-clause-ran : goal.returns-in_err-work_unless-clause-ran
returns-in_err-work_unless-clause-ran g c =
    let t = c.args.posts.now.plan.now in
    let custom = g.O.RowOp.meaning c.args.custom.now in
    let cut = cut_in c.args.engine.now in
    let avail = c.args.avail.now in
    let boxes = c.args.posts.now.boxes.items in
    let board = c.args.board.now in
    let laws = c.laws_of_steps.ensures t custom cut in
    let e0 = c.args.engine.now in
    let row = c.args.row.now.items in
    let was = c.args.parts.now in
    let before = c.args.ticks.now in
    let b = c.caller_round.new.engine in
    let asked = c.passed-passed.ensures in
    let opened = c.shut-shut.ensures in
    let round = c.in_ok-caller_round.ensures in
    let open_still : has_ended c.loop.engine ≡ false = sym c.is_over.ensures ∙ c.if-is_over.false in
    let avail_later = c.shut-shut.new.self in
    let next = turning-round g.I.Ids.tells g.C.CellStore.tells g.C.CellStore.fault_count g.T.Ticks.handed_out g.T.Ticks.tells g.V.Avail.tells t custom cut avail boxes board laws e0 row was before c.loop.engine c.loop.row.items c.loop.seat c.loop.parts c.loop.ticks c.loop.avail c.loop.invariant.turning
    c.passed-passed.result c.passed-passed.new.self asked.counted asked.told asked.tells_the_rest c.shut-shut.result avail_later opened.told opened.tells_the_rest
    (bounded-by t custom cut (c.what_can_be_done_is_bounded.ensures t custom cut) (c.no_attempt_aborts_with_partitions.ensures t custom cut)) open_still b c.caller_round.new.row.items c.caller_round.new.seat c.caller_round.new.parts round.gathered round.ticked round.runs c.caller_round.ensures.kept (c.caller_round.ensures.offered (no-memory c.caller_round.result _ c.in_ok-caller_round.was)) in
    let exits = c.from_residual-in_err-work_unless in
    turned-short g.I.Ids.tells g.C.CellStore.tells g.C.CellStore.fault_count g.T.Ticks.handed_out g.T.Ticks.tells g.V.Avail.tells t custom cut avail boxes board laws e0 row was before b c.caller_round.new.row.items c.caller_round.new.seat c.caller_round.new.parts c.passed-passed.new.self avail_later next
    exits.result _ c.work_unless.new.engine c.work_unless.new.row.items exits.ensures.1 refl c.work_unless.ensures.still

pub returns-in_err-work_unless-clause-once : goal.returns-in_err-work_unless-clause-once
returns-in_err-work_unless-clause-once g c =
    let t = c.args.posts.now.plan.now in
    let cut = cut_in c.args.engine.now in
    let b = c.caller_round.new.engine in
    on-err c.from_residual-in_err-work_unless.result
    (ready-once t cut b c.work_unless.new.engine (ready-back t cut c.loop.engine b c.loop.invariant.turning.gathered.ready c.in_ok-caller_round.ensures.gathered.ready) c.work_unless.ensures.still)

pub returns-in_err-work_unless-clause-kept : goal.returns-in_err-work_unless-clause-kept
returns-in_err-work_unless-clause-kept g c = kept-then g.C.CellStore.tells c.args.parts.now c.loop.parts c.caller_round.new.parts c.loop.invariant.turning.kept c.caller_round.ensures.kept

pub returns-in_err-work_unless-clause-followed : goal.returns-in_err-work_unless-clause-followed
returns-in_err-work_unless-clause-followed g c =
    followed-short g.W.Follow.tells g.W.Follow.fault_count c.from_residual-in_err-work_unless.result c.args.engine.now.fates c.work_unless.new.engine.fates c.args.follow.now c.caller_round.new.follow c.from_residual-in_err-work_unless.ensures.1
    (c.in_ok-caller_round.ensures.followed.quiet ∙ c.loop.invariant.told.follows.quiet)

pub returns-then-is_over-clause-ran : goal.returns-then-is_over-clause-ran
returns-then-is_over-clause-ran g c =
    let t = c.args.posts.now.plan.now in
    let custom = g.O.RowOp.meaning c.args.custom.now in
    let cut = cut_in c.args.engine.now in
    turned-over g.I.Ids.tells g.C.CellStore.tells g.C.CellStore.fault_count g.T.Ticks.handed_out g.T.Ticks.tells g.V.Avail.tells t custom cut c.args.avail.now c.args.posts.now.boxes.items c.args.board.now (c.laws_of_steps.ensures t custom cut)
    c.args.engine.now c.args.row.now.items c.args.parts.now c.args.ticks.now c.loop.engine c.loop.row.items c.loop.seat c.loop.parts c.loop.ticks c.loop.avail c.loop.invariant.turning

pub returns-then-is_over-clause-gathered : goal.returns-then-is_over-clause-gathered
returns-then-is_over-clause-gathered g c = c.loop.invariant.turning.gathered

pub returns-then-is_over-clause-kept : goal.returns-then-is_over-clause-kept
returns-then-is_over-clause-kept g c = c.loop.invariant.turning.kept

pub returns-then-is_over-clause-followed : goal.returns-then-is_over-clause-followed
returns-then-is_over-clause-followed g c = c.loop.invariant.told.follows
