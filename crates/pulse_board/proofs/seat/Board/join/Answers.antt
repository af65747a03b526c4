use Rattle.std.proofs.Common.{◌∙◌, ap, arith}
use Rattle.pulse_board.specs.Seats.{book_of}
use Rattle.pulse_board.proofs.Steps.{learns}
use Rattle.pulse_board.proofs.Splitting.{joins, joined_some, join_others}
use Rattle.pulse_board.proofs.seat.Board.join.Goals as goal

pub join_seat-requires : goal.join_seat-requires
join_seat-requires c = (c.requires.seat, c.requires.other, c.args.other.no_slot, (let e = c.args.self.now.two_words in omega arith), joins _ _ _ _ c.args.into.now.some_number)

pub load-requires : goal.load-requires
load-requires c = (
  c.join_seat.ensures.0 ∙ c.requires.seat,
  (let e = c.args.self.now.two_words in omega arith),
  learns _ _ _ (joined_some c.args.into.now.inner.me.0 c.args.other.inner.me.0 c.join_seat.new.seat.me.0 c.args.into.now.some_number (ap (λ m. m.0) c.join_seat.ensures.2)),
)

pub invariant_of-into : goal.invariant_of-into
invariant_of-into c = record {
  no_slot = ap (λ m. m.1) c.load.ensures.2.0 ∙ ap (λ m. m.1) c.join_seat.ensures.2 ∙ c.args.into.now.no_slot;
  some_number = joined_some c.args.into.now.inner.me.0 c.args.other.inner.me.0 c.load.new.seat.me.0 c.args.into.now.some_number (ap (λ m. m.0) c.load.ensures.2.0 ∙ ap (λ m. m.0) c.join_seat.ensures.2);
}

pub returns-clause-numbered : goal.returns-clause-numbered
returns-clause-numbered c = λ others.
    join_others (book_of c.args.into.now) (book_of c.args.other) c.load.new.seat.me.0 others (ap (λ m. m.0) c.load.ensures.2.0 ∙ ap (λ m. m.0) c.join_seat.ensures.2)
