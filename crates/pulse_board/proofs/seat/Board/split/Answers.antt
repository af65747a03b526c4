use Rattle.std.proofs.Common.{ap, arith}
use Rattle.pulse_board.specs.Seats.{book_of}
use Rattle.pulse_board.proofs.Splitting.{cuts, split_others}
use Rattle.pulse_board.proofs.seat.Board.split.Goals as goal

pub split_seat-inner-requires : goal.split_seat-inner-requires
split_seat-inner-requires c = (c.requires, (let e = c.args.self.now.two_words in omega arith), cuts _ _ c.args.seat.now.some_number)

pub returns-clause-numbered : goal.returns-clause-numbered
returns-clause-numbered c = λ others.
    split_others (book_of c.args.seat.now) c.split_seat-inner.new.seat.me.0 c.split_seat-inner.result.me.0 others c.args.seat.now.some_number (ap (λ m. m.0) c.split_seat-inner.ensures.2) (ap (λ m. m.0) c.split_seat-inner.ensures.4)
