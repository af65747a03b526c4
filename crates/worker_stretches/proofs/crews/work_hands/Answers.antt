use Rattle.pulse_board.specs.Seats.{book_of}
use Rattle.worker_stretches.specs.Hands.{items_in}
use Rattle.worker_stretches.proofs.Working.{held-after, more-after}
use Rattle.worker_stretches.proofs.crews.work_hands.Goals as goal

pub look_row-requires : goal.look_row-requires
look_row-requires g c = record {
  passes = c.work_rows-done.ensures.passes;
  boxes = c.requires.row.boxes_are;
  whole = c.work_rows-done.ensures.whole;
}

pub returns-clause-did : goal.returns-clause-did
returns-clause-did g c =
    held-after g.I.Ids.tells c.args.posts.now.plan.now (g.O.RowOp.meaning c.args.custom.now) (book_of c.work_rows-done.new.seat) c.args.posts.now.boxes.items (items_in c.args.hands.items) (items_in c.in_ok-left.left.items) (items_in c.args.offices.items) (items_in c.in_ok-left.more.items)
    c.args.row.now.items c.work_rows-done.new.row.items c.look_row.new.row.items c.requires.row c.look_row.ensures.row c.look_row.ensures.same c.in_ok-left.ensures.did

pub returns-clause-more : goal.returns-clause-more
returns-clause-more g c =
    more-after c.args.row.now.items c.work_rows-done.new.row.items c.look_row.new.row.items c.look_row.ensures.same c.in_ok-left.ensures.more
