use Rattle.std.proofs.Common.{◌≡◌, length, map, List}
use Rattle.box_rows.specs.Rows.{numbers_at}
use Rattle.worker_pool.specs.declared.acker.AckerDesk.{AckerDesk}
use Rattle.worker_pool.specs.Crews.{CrewDid, DesksAtWork, TaskMoreAt}
use Rattle.worker_pool.proofs.crew.go_on_at.Given as goal

abbrev pub invariant-loop-done : goal.invariant-loop-done
invariant-loop-done g l = record {
  work : DesksAtWork l.posts.plan.now l.posts.boxes.items l.desks.items l.row.items;
  numbers : map numbers_at l.row.items ≡ map numbers_at l.fn.row.items;
  did : (ackers : List AckerDesk) → CrewDid g.I.Ids.tells l.posts.plan.now (g.O.RowOp.meaning l.custom) l.fn.desks.items l.desks.items ackers ackers l.fn.row.items l.row.items;
  many : length l.desks.items ≡ length l.fn.desks.items;
  more : TaskMoreAt l.n l.fn.desks.items l.desks.items l.fn.row.items l.row.items;
}
