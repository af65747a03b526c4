use Rattle.std.proofs.Common.{◌≡◌, ◌+◌, ◌-◌, length}
use Rattle.pass_numbers.specs.Numbers.{IsWhole}
use Rattle.shared_ledger.specs.Books.{numbers_in}
use Rattle.shared_ledger.specs.Seats.{IsSeatOf, book_of}
use Rattle.state_tallies.specs.Tallies.{count_of}
use Rattle.window_account.specs.Stands.{Stands}
use Rattle.track_window.specs.Jobs.{tuples_in}
use Rattle.track_window.proofs.window.track_window.Given as goal

abbrev pub invariant-loop : goal.invariant-loop
invariant-loop g l = record {
  seat : IsSeatOf l.ledger l.seat;
  whole : IsWhole (numbers_in (book_of l.seat));
  stands : Stands l.plan (g.O.RowOp.meaning l.custom) l.attempt (l.counter + 1) (length l.plan.components - l.counter) l.rows (tuples_in l.walk.jobs.items) l.walk.notes.items (book_of l.seat).calls (count_of l.walk.tallies);
  components : length l.walk.tallies ≡ length l.plan.components;
}
