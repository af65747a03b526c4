use Rattle.std.proofs.Common.{rules, ◌≡◌, length, arith}
use Rattle.pulse_board.specs.Seats.{book_of}
use Rattle.worker_stretches.proofs.Knowing.{known-on, knows-looked}
use Rattle.worker_stretches.proofs.Working.{Worked, hands-left, room-after, stretched-numbers, stretched-of, takes-more, team-worked, whole-again, whole-back}
use Rattle.worker_stretches.proofs.crews.work_rows.Goals as goal

pub returns-in_err-rows-clause-whole : goal.returns-in_err-rows-clause-whole
returns-in_err-rows-clause-whole g c =
    whole-back c.args.posts.now.plan.now c.args.posts.now.boxes.items c.args.row.now.items c.split_rows.new.row.items c.requires.row c.split_rows.ensures.passes c.in_err-rows.ensures.back

pub taken_apart-left-requires-clause-numbers : goal.taken_apart-left-requires-clause-numbers
taken_apart-left-requires-clause-numbers g c =
    stretched-numbers g.I.Ids.tells c.args.posts.now.plan.now c.args.posts.now.boxes.items c.args.board.now (g.O.RowOp.meaning c.args.custom.now) c.crews_of-crews.new.seat c.crews_of-crews.result.items c.work.new.crews.items
    c.work.ensures c.crews_of-crews.ensures.numbers

pub taken_apart-left-requires-clause-crews : goal.taken_apart-left-requires-clause-crews
taken_apart-left-requires-clause-crews g c =
    stretched-of g.I.Ids.tells c.args.posts.now.plan.now c.args.posts.now.boxes.items c.args.board.now (g.O.RowOp.meaning c.args.custom.now) c.crews_of-crews.result.items c.work.new.crews.items c.work.ensures
    c.crews_of-crews.ensures.none_drawn

pub taken_apart-left-requires-clause-hands_room : goal.taken_apart-left-requires-clause-hands_room
taken_apart-left-requires-clause-hands_room g c =
    let count : c.len-count.result ≡ length c.args.hands.items = search rules in
    let many = room-after g.I.Ids.tells c.args.posts.now.plan.now c.args.posts.now.boxes.items c.args.board.now (g.O.RowOp.meaning c.args.custom.now) c.args.hands.items c.crews_of-crews.result.items c.work.new.crews.items
    c.crews_of-crews.ensures.desks c.work.ensures in
    let room = c.in_ok-room.ensures.for_hands in omega arith

pub taken_apart-left-requires-clause-offices_room : goal.taken_apart-left-requires-clause-offices_room
taken_apart-left-requires-clause-offices_room g c =
    let count : c.len-count.result ≡ length c.args.hands.items = search rules in
    let many = room-after g.I.Ids.tells c.args.posts.now.plan.now c.args.posts.now.boxes.items c.args.board.now (g.O.RowOp.meaning c.args.custom.now) c.args.hands.items c.crews_of-crews.result.items c.work.new.crews.items
    c.crews_of-crews.ensures.desks c.work.ensures in
    let room = c.in_ok-room.ensures.for_offices in omega arith

pub returns-then-wants-clause-whole : goal.returns-then-wants-clause-whole
returns-then-wants-clause-whole g c =
    let w : Worked g.I.Ids.tells c.args.posts.now.plan.now c.args.posts.now.boxes.items c.args.board.now (g.O.RowOp.meaning c.args.custom.now) c.args.row.now.items c.split_rows.new.row.items c.taken_apart-left.new.row.items
    c.in_ok-rows.rows.items c.args.hands.items c.args.offices.items c.crews_of-crews.result.items c.work.new.crews.items c.taken_apart-left.result.0.items c.taken_apart-left.result.1.items c.taken_apart-left.result.2 = record {
      splits = c.in_ok-rows.ensures.split;
      rows_are = c.crews_of-crews.ensures.rows;
      hands_are = c.crews_of-crews.ensures.desks;
      offices_are = c.crews_of-crews.ensures.ackers;
      stretched = c.work.ensures;
      joins = c.taken_apart-left.ensures.joined;
      desks = c.taken_apart-left.ensures.desks;
      ackers = c.taken_apart-left.ensures.ackers;
      many = c.taken_apart-left.ensures.many;
      enough = c.taken_apart-left.ensures.wants;
    } in
    whole-again g.I.Ids.tells c.args.posts.now.plan.now c.args.posts.now.boxes.items c.args.board.now (g.O.RowOp.meaning c.args.custom.now) c.args.row.now.items c.split_rows.new.row.items c.taken_apart-left.new.row.items
    c.in_ok-rows.rows.items c.args.hands.items c.args.offices.items c.crews_of-crews.result.items c.work.new.crews.items c.taken_apart-left.result.0.items c.taken_apart-left.result.1.items c.taken_apart-left.result.2 w c.requires.row c.taken_apart-left.ensures.passes

pub returns-clause-whole : goal.returns-clause-whole
returns-clause-whole g c =
    let w : Worked g.I.Ids.tells c.args.posts.now.plan.now c.args.posts.now.boxes.items c.args.board.now (g.O.RowOp.meaning c.args.custom.now) c.args.row.now.items c.split_rows.new.row.items c.taken_apart-left.new.row.items
    c.in_ok-rows.rows.items c.args.hands.items c.args.offices.items c.crews_of-crews.result.items c.work.new.crews.items c.taken_apart-left.result.0.items c.taken_apart-left.result.1.items c.taken_apart-left.result.2 = record {
      splits = c.in_ok-rows.ensures.split;
      rows_are = c.crews_of-crews.ensures.rows;
      hands_are = c.crews_of-crews.ensures.desks;
      offices_are = c.crews_of-crews.ensures.ackers;
      stretched = c.work.ensures;
      joins = c.taken_apart-left.ensures.joined;
      desks = c.taken_apart-left.ensures.desks;
      ackers = c.taken_apart-left.ensures.ackers;
      many = c.taken_apart-left.ensures.many;
      enough = c.taken_apart-left.ensures.wants;
    } in
    whole-again g.I.Ids.tells c.args.posts.now.plan.now c.args.posts.now.boxes.items c.args.board.now (g.O.RowOp.meaning c.args.custom.now) c.args.row.now.items c.split_rows.new.row.items c.taken_apart-left.new.row.items
    c.in_ok-rows.rows.items c.args.hands.items c.args.offices.items c.crews_of-crews.result.items c.work.new.crews.items c.taken_apart-left.result.0.items c.taken_apart-left.result.1.items c.taken_apart-left.result.2 w c.requires.row c.taken_apart-left.ensures.passes

pub returns-clause-hands : goal.returns-clause-hands
returns-clause-hands g c =
    let w : Worked g.I.Ids.tells c.args.posts.now.plan.now c.args.posts.now.boxes.items c.args.board.now (g.O.RowOp.meaning c.args.custom.now) c.args.row.now.items c.split_rows.new.row.items c.taken_apart-left.new.row.items
    c.in_ok-rows.rows.items c.args.hands.items c.args.offices.items c.crews_of-crews.result.items c.work.new.crews.items c.taken_apart-left.result.0.items c.taken_apart-left.result.1.items c.taken_apart-left.result.2 = record {
      splits = c.in_ok-rows.ensures.split;
      rows_are = c.crews_of-crews.ensures.rows;
      hands_are = c.crews_of-crews.ensures.desks;
      offices_are = c.crews_of-crews.ensures.ackers;
      stretched = c.work.ensures;
      joins = c.taken_apart-left.ensures.joined;
      desks = c.taken_apart-left.ensures.desks;
      ackers = c.taken_apart-left.ensures.ackers;
      many = c.taken_apart-left.ensures.many;
      enough = c.taken_apart-left.ensures.wants;
    } in
    hands-left g.I.Ids.tells c.args.posts.now.plan.now c.args.posts.now.boxes.items c.args.board.now (g.O.RowOp.meaning c.args.custom.now) c.args.row.now.items c.split_rows.new.row.items c.taken_apart-left.new.row.items
    c.in_ok-rows.rows.items c.args.hands.items c.args.offices.items c.crews_of-crews.result.items c.work.new.crews.items c.taken_apart-left.result.0.items c.taken_apart-left.result.1.items c.taken_apart-left.result.2 w c.if-wants.false

pub returns-clause-more : goal.returns-clause-more
returns-clause-more g c =
    let w : Worked g.I.Ids.tells c.args.posts.now.plan.now c.args.posts.now.boxes.items c.args.board.now (g.O.RowOp.meaning c.args.custom.now) c.args.row.now.items c.split_rows.new.row.items c.taken_apart-left.new.row.items
    c.in_ok-rows.rows.items c.args.hands.items c.args.offices.items c.crews_of-crews.result.items c.work.new.crews.items c.taken_apart-left.result.0.items c.taken_apart-left.result.1.items c.taken_apart-left.result.2 = record {
      splits = c.in_ok-rows.ensures.split;
      rows_are = c.crews_of-crews.ensures.rows;
      hands_are = c.crews_of-crews.ensures.desks;
      offices_are = c.crews_of-crews.ensures.ackers;
      stretched = c.work.ensures;
      joins = c.taken_apart-left.ensures.joined;
      desks = c.taken_apart-left.ensures.desks;
      ackers = c.taken_apart-left.ensures.ackers;
      many = c.taken_apart-left.ensures.many;
      enough = c.taken_apart-left.ensures.wants;
    } in
    takes-more g.I.Ids.tells c.args.posts.now.plan.now c.args.posts.now.boxes.items c.args.board.now (g.O.RowOp.meaning c.args.custom.now) c.args.row.now.items c.split_rows.new.row.items c.taken_apart-left.new.row.items
    c.in_ok-rows.rows.items c.args.hands.items c.args.offices.items c.crews_of-crews.result.items c.work.new.crews.items c.taken_apart-left.result.0.items c.taken_apart-left.result.1.items c.taken_apart-left.result.2 w

pub returns-clause-did : goal.returns-clause-did
returns-clause-did g c =
    let w : Worked g.I.Ids.tells c.args.posts.now.plan.now c.args.posts.now.boxes.items c.args.board.now (g.O.RowOp.meaning c.args.custom.now) c.args.row.now.items c.split_rows.new.row.items c.taken_apart-left.new.row.items
    c.in_ok-rows.rows.items c.args.hands.items c.args.offices.items c.crews_of-crews.result.items c.work.new.crews.items c.taken_apart-left.result.0.items c.taken_apart-left.result.1.items c.taken_apart-left.result.2 = record {
      splits = c.in_ok-rows.ensures.split;
      rows_are = c.crews_of-crews.ensures.rows;
      hands_are = c.crews_of-crews.ensures.desks;
      offices_are = c.crews_of-crews.ensures.ackers;
      stretched = c.work.ensures;
      joins = c.taken_apart-left.ensures.joined;
      desks = c.taken_apart-left.ensures.desks;
      ackers = c.taken_apart-left.ensures.ackers;
      many = c.taken_apart-left.ensures.many;
      enough = c.taken_apart-left.ensures.wants;
    } in
    team-worked g.I.Ids.tells c.args.posts.now.plan.now c.args.posts.now.boxes.items c.args.board.now (g.O.RowOp.meaning c.args.custom.now) c.args.row.now.items c.split_rows.new.row.items c.taken_apart-left.new.row.items
    c.in_ok-rows.rows.items c.args.hands.items c.args.offices.items c.crews_of-crews.result.items c.work.new.crews.items c.taken_apart-left.result.0.items c.taken_apart-left.result.1.items c.taken_apart-left.result.2
    w (book_of c.ticks.new.seat) (known-on (book_of c.ticks.new.seat) (book_of c.taken_apart-left.new.seat) c.work.new.crews.items (knows-looked (book_of c.taken_apart-left.new.seat) (book_of c.ticks.new.seat) c.ticks.result c.ticks.ensures.book) c.taken_apart-left.ensures.knows) c.if-wants.false
