use Rattle.std.proofs.Common.{refl}
use Rattle.pulse_board.specs.Seats.{book_of}
use Rattle.event_engine.specs.Engines.{cut_in}
use Rattle.worker_stretches.specs.Teams.{boxes_of}
use Rattle.worker_stretches.proofs.Leading.{goes-on-after, in_time-then, leads-after, orderly-after, orders-after, ready-after, ready-here, seats-lent}
use Rattle.worker_stretches.proofs.stretch.stretch_once.Goals as goal

pub lend_seats-requires : goal.lend_seats-requires
lend_seats-requires g c = ready-here c.args.posts.now.plan.now c.args.engine.now c.requires.ready

pub stretch_seats-requires-clause-seats : goal.stretch_seats-requires-clause-seats
stretch_seats-requires-clause-seats g c = λ lives bounds. seats-lent c.args.posts.now.plan.now c.args.engine.now c.lend_seats.new.self c.in_ok-tasks.tasks.items c.in_ok-tasks.ackers.items c.requires.ready c.in_ok-tasks.ensures.lends

pub returns-clause-ready : goal.returns-clause-ready
returns-clause-ready g c =
    ready-after c.args.posts.now.plan.now c.args.engine.now c.lend_seats.new.self c.return_seats.new.self c.in_ok-left.left.items c.in_ok-left.others.items c.requires.ready c.in_ok-tasks.ensures.lent c.return_seats.ensures.ready c.in_ok-left.ensures.seats
    (orderly-after c.args.posts.now.plan.now c.args.engine.now c.lend_seats.new.self c.return_seats.new.self c.in_ok-tasks.tasks.items c.in_ok-left.left.items c.in_ok-tasks.ackers.items c.in_ok-left.others.items c.requires.ready c.in_ok-tasks.ensures.lends c.return_seats.ensures.returns c.in_ok-left.ensures.seats)

pub returns-clause-orders : goal.returns-clause-orders
returns-clause-orders g c =
    orders-after c.args.posts.now.plan.now c.args.engine.now c.lend_seats.new.self c.return_seats.new.self c.in_ok-tasks.tasks.items c.in_ok-left.left.items c.in_ok-tasks.ackers.items c.in_ok-left.others.items c.in_ok-tasks.ensures.lends c.return_seats.ensures.returns

pub returns-clause-leads : goal.returns-clause-leads
returns-clause-leads g c =
    leads-after g.I.Ids.tells c.args.posts.now.plan.now (g.O.RowOp.meaning c.args.custom.now) (cut_in c.args.engine.now) (book_of c.stretch_seats.new.seat) c.args.engine.now c.lend_seats.new.self c.return_seats.new.self
    c.in_ok-tasks.tasks.items c.in_ok-left.left.items c.in_ok-tasks.ackers.items c.in_ok-left.others.items (boxes_of c.args.row.now.items) (boxes_of c.stretch_seats.new.row.items)
    (record {
      lends = c.in_ok-tasks.ensures.lends;
      first = c.lend_seats.ensures.still;
      returns = c.return_seats.ensures.returns;
      second = c.return_seats.ensures.still;
      befores = seats-lent c.args.posts.now.plan.now c.args.engine.now c.lend_seats.new.self c.in_ok-tasks.tasks.items c.in_ok-tasks.ackers.items c.requires.ready c.in_ok-tasks.ensures.lends;
      afters = c.in_ok-left.ensures.seats;
      silent = c.in_ok-left.ensures.silent;
      orderly = orderly-after c.args.posts.now.plan.now c.args.engine.now c.lend_seats.new.self c.return_seats.new.self c.in_ok-tasks.tasks.items c.in_ok-left.left.items c.in_ok-tasks.ackers.items c.in_ok-left.others.items c.requires.ready c.in_ok-tasks.ensures.lends c.return_seats.ensures.returns c.in_ok-left.ensures.seats;
      did = c.in_ok-left.ensures.did;
    })
    (λ words. c.stretches_lead_on.ensures c.args.posts.now.plan.now (g.O.RowOp.meaning c.args.custom.now) (cut_in c.args.engine.now) words)

pub returns-clause-in_time : goal.returns-clause-in_time
returns-clause-in_time g c =
    in_time-then g.I.Ids.tells c.args.posts.now.plan.now (g.O.RowOp.meaning c.args.custom.now) (cut_in c.args.engine.now) (book_of c.stretch_seats.new.seat) c.args.engine.now c.lend_seats.new.self c.return_seats.new.self
    c.in_ok-tasks.tasks.items c.in_ok-left.left.items c.in_ok-tasks.ackers.items c.in_ok-left.others.items (boxes_of c.args.row.now.items) (boxes_of c.stretch_seats.new.row.items)
    (record {
      lends = c.in_ok-tasks.ensures.lends;
      first = c.lend_seats.ensures.still;
      returns = c.return_seats.ensures.returns;
      second = c.return_seats.ensures.still;
      befores = seats-lent c.args.posts.now.plan.now c.args.engine.now c.lend_seats.new.self c.in_ok-tasks.tasks.items c.in_ok-tasks.ackers.items c.requires.ready c.in_ok-tasks.ensures.lends;
      afters = c.in_ok-left.ensures.seats;
      silent = c.in_ok-left.ensures.silent;
      orderly = orderly-after c.args.posts.now.plan.now c.args.engine.now c.lend_seats.new.self c.return_seats.new.self c.in_ok-tasks.tasks.items c.in_ok-left.left.items c.in_ok-tasks.ackers.items c.in_ok-left.others.items c.requires.ready c.in_ok-tasks.ensures.lends c.return_seats.ensures.returns c.in_ok-left.ensures.seats;
      did = c.in_ok-left.ensures.did;
    })
    (book_of c.args.seat.now) c.requires.in_time c.stretch_seats.ensures.drawn

pub returns-clause-goes_on : goal.returns-clause-goes_on
returns-clause-goes_on g c = λ over.
    goes-on-after g.I.Ids.tells c.args.posts.now.plan.now (g.O.RowOp.meaning c.args.custom.now) (cut_in c.args.engine.now) (book_of c.stretch_seats.new.seat) c.args.engine.now c.lend_seats.new.self c.return_seats.new.self
    c.in_ok-tasks.tasks.items c.in_ok-left.left.items c.in_ok-tasks.ackers.items c.in_ok-left.others.items (boxes_of c.args.row.now.items) (boxes_of c.stretch_seats.new.row.items)
    (record {
      lends = c.in_ok-tasks.ensures.lends;
      first = c.lend_seats.ensures.still;
      returns = c.return_seats.ensures.returns;
      second = c.return_seats.ensures.still;
      befores = seats-lent c.args.posts.now.plan.now c.args.engine.now c.lend_seats.new.self c.in_ok-tasks.tasks.items c.in_ok-tasks.ackers.items c.requires.ready c.in_ok-tasks.ensures.lends;
      afters = c.in_ok-left.ensures.seats;
      silent = c.in_ok-left.ensures.silent;
      orderly = orderly-after c.args.posts.now.plan.now c.args.engine.now c.lend_seats.new.self c.return_seats.new.self c.in_ok-tasks.tasks.items c.in_ok-left.left.items c.in_ok-tasks.ackers.items c.in_ok-left.others.items c.requires.ready c.in_ok-tasks.ensures.lends c.return_seats.ensures.returns c.in_ok-left.ensures.seats;
      did = c.in_ok-left.ensures.did;
    })
    (λ words. c.stretches_lead_on.ensures c.args.posts.now.plan.now (g.O.RowOp.meaning c.args.custom.now) (cut_in c.args.engine.now) words)
    (book_of c.args.seat.now) c.args.row.now.items c.stretch_seats.new.row.items over (record { held = λ f. refl; held_now = λ f. refl; took = λ f. refl; took_now = λ f. refl; more = c.in_ok-left.ensures.more })
    c.requires.in_time c.stretch_seats.ensures.drawn c.in_ok-left.ensures.tells
