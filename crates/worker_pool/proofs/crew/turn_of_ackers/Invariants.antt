use Rattle.std.proofs.Common.{◌≡◌, length, map}
use Rattle.box_rows.specs.Rows.{numbers_at}
use Rattle.worker_pool.specs.Ackers.{IsAckerHeld, acker_left}
use Rattle.worker_pool.specs.Crews.{AckersAtWork, AckersDid}
use Rattle.worker_pool.proofs.Acking.{CountedTo}
use Rattle.worker_pool.proofs.Saying.{UpTo}
use Rattle.worker_pool.proofs.crew.turn_of_ackers.Given as goal

abbrev pub invariant-loop-n : goal.invariant-loop-n
invariant-loop-n g l = record {
  work : AckersAtWork l.posts.plan.now l.posts.boxes.items l.ackers.items l.row.items;
  numbers : map numbers_at l.row.items ≡ map numbers_at l.fn.row.items;
  did : AckersDid l.posts.plan.now l.fn.ackers.items l.ackers.items l.fn.row.items l.row.items;
  many : length l.ackers.items ≡ length l.fn.ackers.items;
  up : UpTo acker_left (IsAckerHeld l.posts.plan.now) l.n l.moved l.fn.ackers.items l.ackers.items l.fn.row.items l.row.items;
  counted : CountedTo l.tick l.n l.fn.ackers.items l.ackers.items;
}
