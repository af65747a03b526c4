use Rattle.std.proofs.Common.{◌≡◌, ◌++◌, map, take}
use Rattle.shared_ledger.specs.Books.{numbers_in}
use Rattle.shared_ledger.specs.Seats.{IsSeatOf, book_of}
use Rattle.track_window.specs.Acts.{call_of_act}
use Rattle.track_window.proofs.acks.act_each.Given as goal

abbrev pub invariant-loop-act : goal.invariant-loop-act
invariant-loop-act l = record {
  seat : IsSeatOf l.ledger l.seat;
  calls : (book_of l.seat).calls ≡ (book_of l.fn.seat).calls ++ map call_of_act (take l.act-index l.acts);
  numbers : numbers_in (book_of l.seat) ≡ numbers_in (book_of l.fn.seat);
}
