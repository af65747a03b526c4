use Rattle.std.proofs.Common.{◌≡◌, length, take}
use Rattle.shared_ledger.specs.Books.{numbers_in}
use Rattle.shared_ledger.specs.Seats.{IsSeatOf, book_of}
use Rattle.window_account.specs.Stands.{Opens}
use Rattle.track_window.specs.Jobs.{tuples_in}
use Rattle.track_window.proofs.depth.begin_all.Given as goal

abbrev pub invariant-loop-number : goal.invariant-loop-number
invariant-loop-number g l = record {
  seat : IsSeatOf l.ledger l.seat;
  numbers : numbers_in (book_of l.seat) ≡ numbers_in (book_of l.fn.seat);
  opens : Opens l.plan l.attempt (length l.rows) (take l.number l.rows) (tuples_in l.walk.jobs.items) l.walk.notes.items (book_of l.seat).calls;
  tallies : l.walk.tallies ≡ l.fn.walk.tallies;
}
