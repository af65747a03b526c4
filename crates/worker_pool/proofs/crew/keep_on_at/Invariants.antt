use Rattle.std.proofs.Common.{◌≡◌, length, map}
use Rattle.box_rows.specs.Rows.{numbers_at}
use Rattle.worker_pool.specs.Crews.{AckerMoreAt, AckersAtWork, AckersDid, KeepsCountedAt}
use Rattle.worker_pool.proofs.crew.keep_on_at.Given as goal

abbrev pub invariant-loop-done : goal.invariant-loop-done
invariant-loop-done g l = record {
  work : AckersAtWork l.posts.plan.now l.posts.boxes.items l.ackers.items l.row.items;
  numbers : map numbers_at l.row.items ≡ map numbers_at l.fn.row.items;
  did : AckersDid l.posts.plan.now l.fn.ackers.items l.ackers.items l.fn.row.items l.row.items;
  many : length l.ackers.items ≡ length l.fn.ackers.items;
  more : AckerMoreAt l.n l.fn.ackers.items l.ackers.items l.fn.row.items l.row.items;
  counted : KeepsCountedAt l.n l.fn.ackers.items l.ackers.items;
}
