use Rattle.std.proofs.Common.{ap, ◌∙◌}
use Rattle.shared_ledger.specs.Books.{word_at}
use Rattle.shared_ledger.specs.Seats.{book_of}
use Rattle.shared_ledger.specs.Xors.{xor_by}
use Rattle.ledger_tests.proofs.TwoSeats.{acked_twice}
use Rattle.ledger_tests.proofs.both.word_after_both.Goals as goal

pub returns : goal.returns
returns g c =
    c.state.ensures.word (c.ack_both-seat.ensures.whole c.requires.whole)
    ∙ ap (xor_by (word_at c.args.root)) c.ack_both-seat.ensures.calls
    ∙ acked_twice c.args.root c.args.first c.args.second (book_of c.args.seat).calls
