use Rattle.std.proofs.Common.{refl}
use Rattle.worker_stretches.specs.event_engine.Engines.{cut_in}
use Rattle.worker_turns.proofs.Sweeps.{carried, empty-again, engine-carried, full-never, others-sent, others-then, room-kept}
use Rattle.worker_turns.proofs.sweeping.carry.Goals as goal

pub returns-in_err-gather_box-in-Ok-clause-room : goal.returns-in_err-gather_box-in-Ok-clause-room
returns-in_err-gather_box-in-Ok-clause-room g c =
    room-kept c.args.posts.now.plan.now c.args.posts.now.boxes.items c.args.row.now.items c.gather_box.new.row.items c.requires.row.passes c.gather_box.ensures.row.passes c.requires.room

pub unreachable-requires : goal.unreachable-requires
unreachable-requires g c =
    full-never c.args.at c.args.row.now.items c.args.posts.now.boxes.items c.args.posts.now.plan.now c.requires.there c.requires.row.passes c.requires.empty c.requires.room (λ v at. (c.in-Err.ensures.full v at).0 refl)

pub returns-clause-empty : goal.returns-clause-empty
returns-clause-empty g c =
    empty-again c.args.at c.args.row.now.items c.gather_box.new.row.items c.requires.empty
    (others-then c.args.at c.args.row.now.items c.send_fit.new.row.items c.gather_box.new.row.items (others-sent c.args.at c.args.mail c.args.row.now.items c.send_fit.new.row.items c.in-Ok.ensures.sent) c.gather_box.ensures.others)
    c.in_ok-gather_box-in-Ok.ensures.empty

pub returns-clause-room : goal.returns-clause-room
returns-clause-room g c =
    room-kept c.args.posts.now.plan.now c.args.posts.now.boxes.items c.args.row.now.items c.gather_box.new.row.items c.requires.row.passes c.gather_box.ensures.row.passes c.requires.room

pub returns-clause-carries : goal.returns-clause-carries
returns-clause-carries g c = λ left now_left less.
    let t = c.args.posts.now.plan.now in
    let cut = cut_in c.args.engine.now in
    let boxes = c.args.posts.now.boxes.items in
    engine-carried t cut boxes c.args.engine.now c.gather_box.new.engine c.args.row.now.items c.gather_box.new.row.items left now_left
    (carried t cut boxes c.args.at c.args.engine.now c.gather_box.new.engine c.args.row.now.items c.send_fit.new.row.items c.gather_box.new.row.items left now_left c.args.mail c.requires.row c.requires.empty c.requires.room
    c.in-Ok.ensures.sent c.in-Ok.ensures.holds less c.in_ok-gather_box-in-Ok.ensures.ready c.gather_box.ensures.row c.gather_box.ensures.still c.in_ok-gather_box-in-Ok.ensures.empty c.gather_box.ensures.others
    c.in_ok-gather_box-in-Ok.ensures.swept c.in_ok-gather_box-in-Ok.ensures.carries)
