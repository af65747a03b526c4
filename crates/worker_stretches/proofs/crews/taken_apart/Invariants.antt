use Rattle.std.proofs.Common.{◌≡◌, ◌≤◌, length}
use Rattle.std.specs.Prelude.{vec_capacity}
use Rattle.pulse_board.specs.Seats.{book_of}
use Rattle.worker_stretches.proofs.Crewing.{Parting}
use Rattle.worker_stretches.proofs.Knowing.{TellsAll}
use Rattle.worker_stretches.proofs.crews.taken_apart.Given as goal

abbrev pub invariant-loop-worker : goal.invariant-loop-worker
invariant-loop-worker g l = record {
  parting : Parting l.posts.plan.now l.posts.boxes.items l.board l.fn.crews.items l.fn.row.items l.rest.items l.row.items l.seat l.given.items l.met.items l.wants;
  drawn : (book_of l.seat).drawn ≡ (book_of l.fn.seat).drawn;
  tells : TellsAll l.fn.crews.items l.rest.items l.seat;
  given_room : length l.fn.crews.items ≤ vec_capacity l.given;
  met_room : length l.fn.crews.items ≤ vec_capacity l.met;
}

abbrev pub decreases-loop-worker : goal.decreases-loop-worker
decreases-loop-worker g l = length l.rest.items
