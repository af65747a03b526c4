use Rattle.pulse_board.specs.Seats.{book_of}
use Rattle.worker_stretches.specs.Teams.{boxes_of}
use Rattle.worker_stretches.proofs.Gathering.{all-left, seats-did}
use Rattle.worker_stretches.proofs.stretch.stretch_seats.Goals as goal

pub gathered-requires-clause-all : goal.gathered-requires-clause-all
gathered-requires-clause-all g c =
    all-left g.I.Ids.tells c.args.posts.now.plan.now (g.O.RowOp.meaning c.args.custom.now) (book_of c.work_hands.new.seat) c.args.tasks.items c.args.ackers.items c.in_ok-hands.hands.items c.in_ok-left.left.items c.in_ok-hands.offices.items c.in_ok-left.more.items
    (boxes_of c.args.row.now.items) (boxes_of c.work_hands.new.row.items) c.requires.seats c.in_ok-hands.ensures.dealt c.in_ok-left.ensures.did

pub returns-clause-did : goal.returns-clause-did
returns-clause-did g c =
    seats-did g.I.Ids.tells c.args.posts.now.plan.now (g.O.RowOp.meaning c.args.custom.now) (book_of c.work_hands.new.seat) c.args.tasks.items c.in_ok-tasks.tasks.items c.args.ackers.items c.in_ok-tasks.ackers.items c.in_ok-hands.hands.items c.in_ok-left.left.items c.in_ok-hands.offices.items c.in_ok-left.more.items
    (boxes_of c.args.row.now.items) (boxes_of c.work_hands.new.row.items) c.in_ok-hands.ensures.dealt c.in_ok-tasks.ensures.gathered c.in_ok-left.ensures.did
