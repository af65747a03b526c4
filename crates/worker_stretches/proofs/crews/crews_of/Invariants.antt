use Rattle.std.proofs.Common.{◌≡◌, ◌≤◌, length}
use Rattle.std.specs.Prelude.{vec_capacity}
use Rattle.std.specs.List.{AllByRecursion}
use Rattle.pulse_board.specs.Seats.{book_of}
use Rattle.worker_stretches.specs.Parts.{DrewNone}
use Rattle.worker_stretches.proofs.Crewing.{Crewing}
use Rattle.worker_stretches.proofs.crews.crews_of.Given as goal

abbrev pub invariant-loop-row : goal.invariant-loop-row
invariant-loop-row g l = record {
  crewing : Crewing l.posts.plan.now l.posts.boxes.items l.board l.fn.rows.items l.fn.hands.items l.fn.offices.items l.rest.items l.left.items l.more.items l.crews.items l.seat;
  drawn : (book_of l.seat).drawn ≡ (book_of l.fn.seat).drawn;
  none : AllByRecursion DrewNone l.crews.items;
  room : length l.fn.hands.items ≤ vec_capacity l.crews;
}

abbrev pub decreases-loop-row : goal.decreases-loop-row
decreases-loop-row g l = length l.rest.items
