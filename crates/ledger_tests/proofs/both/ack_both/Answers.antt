use Rattle.std.proofs.Common.{[], ap}
use Rattle.pass_numbers.proofs.Numbering.{one_numbered, one_whole}
use Rattle.shared_ledger.specs.Books.{numbers_in}
use Rattle.shared_ledger.specs.Seats.{book_of}
use Rattle.ledger_tests.proofs.TwoSeats.{two_same}
use Rattle.ledger_tests.proofs.both.ack_both.Goals as goal

pub returns-clause-whole : goal.returns-clause-whole
returns-clause-whole g c = λ whole.
    one_whole numbers_in (book_of c.join.new.into) (c.join.ensures.numbered []
    (two_same (book_of c.split-other.new.seat) (book_of c.join-seat.result.0) (book_of c.split-other.result) (book_of c.join-seat.result.1)
    (ap numbers_in c.join-seat.ensures.first.1) (ap numbers_in c.join-seat.ensures.second.1)
    (c.split-other.ensures.numbered [] (one_numbered numbers_in (book_of c.args.seat) whole))))
