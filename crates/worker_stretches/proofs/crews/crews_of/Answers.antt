use Rattle.std.proofs.Common.{rules, false, ◌<◌, length, subst, sym, refl, ap, ◌∙◌, arith}
use Rattle.std.specs.Prelude.{vec_capacity}
use Rattle.std.specs.List.{AllByRecursion}
use Rattle.pulse_board.specs.declared.rule.Book.{Book}
use Rattle.worker_stretches.specs.Parts.{DrewNone}
use Rattle.worker_stretches.proofs.Crewing.{Crewing, all-crewed, crewing-more, crewing-none, some-left}
use Rattle.worker_stretches.proofs.Zipping.{at_front, comes, each-last, none_left}
use Rattle.worker_stretches.proofs.crews.crews_of.Goals as goal

pub loop-row-init : goal.loop-row-init
loop-row-init g c = record {
  crewing =
      subst (λ xs. Crewing c.args.posts.now.plan.now c.args.posts.now.boxes.items c.args.board.now c.args.rows.items c.args.hands.items c.args.offices.items xs c.from_vec-left.result.items c.from_vec-more.result.items c.args.room.items c.args.seat.now) (sym c.from_vec-rest.ensures.items)
      (subst (λ xs. Crewing c.args.posts.now.plan.now c.args.posts.now.boxes.items c.args.board.now c.args.rows.items c.args.hands.items c.args.offices.items c.args.rows.items xs c.from_vec-more.result.items c.args.room.items c.args.seat.now) (sym c.from_vec-left.ensures.items)
      (subst (λ xs. Crewing c.args.posts.now.plan.now c.args.posts.now.boxes.items c.args.board.now c.args.rows.items c.args.hands.items c.args.offices.items c.args.rows.items c.args.hands.items xs c.args.room.items c.args.seat.now) (sym c.from_vec-more.ensures.items)
      (subst (λ xs. Crewing c.args.posts.now.plan.now c.args.posts.now.boxes.items c.args.board.now c.args.rows.items c.args.hands.items c.args.offices.items c.args.rows.items c.args.hands.items c.args.offices.items xs c.args.seat.now) (sym c.requires.empty)
      (crewing-none c.args.posts.now.plan.now c.args.posts.now.boxes.items c.args.board.now c.args.rows.items c.args.hands.items c.args.offices.items c.args.seat.now c.requires.rows c.requires.hands c.requires.many c.requires.seat))));
  drawn = refl;
  none = subst (AllByRecursion DrewNone) (sym c.requires.empty) tt;
  room = c.requires.room;
}

pub unwrap-desks-requires : goal.unwrap-desks-requires
unwrap-desks-requires g c =
    let some = some-left c.args.posts.now.plan.now c.args.posts.now.boxes.items c.args.board.now c.args.rows.items c.args.hands.items c.args.offices.items c.loop-row.rest.items c.pop_front.new.self.items c.in-Some.row c.loop-row.left.items c.loop-row.more.items c.loop-row.crews.items c.loop-row.seat
    c.loop-row.invariant.crewing (at_front c.loop-row.rest.items c.pop_front.new.self.items c.pop_front.result c.in-Some.row c.pop_front.ensures.items c.in-Some.is) in
    comes c.loop-row.left.items c.pop_front-in-Some.new.self.items c.pop_front-in-Some.result c.pop_front-in-Some.ensures.items c.pop_front-in-Some.ensures.rest some.0

pub unwrap-ackers-requires : goal.unwrap-ackers-requires
unwrap-ackers-requires g c =
    let some = some-left c.args.posts.now.plan.now c.args.posts.now.boxes.items c.args.board.now c.args.rows.items c.args.hands.items c.args.offices.items c.loop-row.rest.items c.pop_front.new.self.items c.in-Some.row c.loop-row.left.items c.loop-row.more.items c.loop-row.crews.items c.loop-row.seat
    c.loop-row.invariant.crewing (at_front c.loop-row.rest.items c.pop_front.new.self.items c.pop_front.result c.in-Some.row c.pop_front.ensures.items c.in-Some.is) in
    comes c.loop-row.more.items c.pop_front-in-Some-2.new.self.items c.pop_front-in-Some-2.result c.pop_front-in-Some-2.ensures.items c.pop_front-in-Some-2.ensures.rest some.1

pub split-own-requires : goal.split-own-requires
split-own-requires g c = c.loop-row.invariant.crewing.seat

pub push_reserved-requires : goal.push_reserved-requires
push_reserved-requires g c =
    let some = some-left c.args.posts.now.plan.now c.args.posts.now.boxes.items c.args.board.now c.args.rows.items c.args.hands.items c.args.offices.items c.loop-row.rest.items c.pop_front.new.self.items c.in-Some.row c.loop-row.left.items c.loop-row.more.items c.loop-row.crews.items c.loop-row.seat
    c.loop-row.invariant.crewing (at_front c.loop-row.rest.items c.pop_front.new.self.items c.pop_front.result c.in-Some.row c.pop_front.ensures.items c.in-Some.is) in
    let room = c.loop-row.invariant.room in
    let below : length c.loop-row.crews.items < vec_capacity c.loop-row.crews = (let few = some.2 in omega arith) in search rules

pub loop-row-preserved : goal.loop-row-preserved
loop-row-preserved g c = record {
  crewing =
      subst (λ xs. Crewing c.args.posts.now.plan.now c.args.posts.now.boxes.items c.args.board.now c.args.rows.items c.args.hands.items c.args.offices.items c.pop_front.new.self.items c.pop_front-in-Some.new.self.items c.pop_front-in-Some-2.new.self.items xs c.split-own.new.seat) (sym c.push_reserved.ensures.items)
      (crewing-more c.args.posts.now.plan.now c.args.posts.now.boxes.items c.args.board.now c.args.rows.items c.args.hands.items c.args.offices.items
      c.loop-row.rest.items c.pop_front.new.self.items c.loop-row.left.items c.pop_front-in-Some.new.self.items c.loop-row.more.items c.pop_front-in-Some-2.new.self.items c.loop-row.crews.items
      (record { desks = c.unwrap-desks.result; ackers = c.unwrap-ackers.result; row = c.in-Some.row; seat = c.split-own.result; spares = c.new.result; turns = 0; wants = false })
      c.loop-row.seat c.split-own.new.seat c.loop-row.invariant.crewing
      (at_front c.loop-row.rest.items c.pop_front.new.self.items c.pop_front.result c.in-Some.row c.pop_front.ensures.items c.in-Some.is)
      (at_front c.loop-row.left.items c.pop_front-in-Some.new.self.items c.pop_front-in-Some.result c.unwrap-desks.result c.pop_front-in-Some.ensures.items c.unwrap-desks.ensures)
      (at_front c.loop-row.more.items c.pop_front-in-Some-2.new.self.items c.pop_front-in-Some-2.result c.unwrap-ackers.result c.pop_front-in-Some-2.ensures.items c.unwrap-ackers.ensures)
      c.requires.boxes refl c.split-own.ensures.seat c.split-own.ensures.new_seat c.split-own.ensures.numbered);
  drawn = ap (λ (b : Book). b.drawn) c.split-own.ensures.book ∙ c.loop-row.invariant.drawn;
  none = subst (AllByRecursion DrewNone) (sym c.push_reserved.ensures.items)
      (each-last DrewNone c.loop-row.crews.items (record { desks = c.unwrap-desks.result; ackers = c.unwrap-ackers.result; row = c.in-Some.row; seat = c.split-own.result; spares = c.new.result; turns = 0; wants = false })
      c.loop-row.invariant.none (ap (λ (b : Book). b.drawn) c.split-own.ensures.new_book));
  room = let e = c.loop-row.invariant.room in search rules;
}

pub returns : goal.returns
returns g c =
    let none = none_left c.loop-row.rest.items c.pop_front.new.self.items c.pop_front.result c.in_default.is c.pop_front.ensures.items c.pop_front.ensures.rest in
    let all = all-crewed c.args.posts.now.plan.now c.args.posts.now.boxes.items c.args.board.now c.args.rows.items c.args.hands.items c.args.offices.items c.loop-row.rest.items c.loop-row.left.items c.loop-row.more.items c.loop-row.crews.items c.loop-row.seat
    c.loop-row.invariant.crewing none in record {
      seat = c.loop-row.invariant.crewing.seat;
      drawn = c.loop-row.invariant.drawn;
      none_drawn = c.loop-row.invariant.none;
      numbers = c.loop-row.invariant.crewing.numbers;
      ready = c.loop-row.invariant.crewing.ready;
      rows = all.0;
      desks = all.1;
      ackers = all.2;
    }
