use Rattle.std.proofs.Common.{◌≡◌, length, map, List}
use Rattle.box_rows.specs.Rows.{numbers_at}
use Rattle.worker_pool.specs.declared.acker.AckerDesk.{AckerDesk}
use Rattle.worker_pool.specs.Crews.{CrewDid, DesksAtWork}
use Rattle.worker_pool.specs.Desks.{IsTaskHeld, task_left}
use Rattle.worker_pool.proofs.Saying.{UpTo}
use Rattle.worker_pool.proofs.crew.turn_of_tasks.Given as goal

abbrev pub invariant-loop-n : goal.invariant-loop-n
invariant-loop-n g l = record {
  work : DesksAtWork l.posts.plan.now l.posts.boxes.items l.desks.items l.row.items;
  numbers : map numbers_at l.row.items ≡ map numbers_at l.fn.row.items;
  did : (ackers : List AckerDesk) → CrewDid g.I.Ids.tells l.posts.plan.now (g.O.RowOp.meaning l.custom) l.fn.desks.items l.desks.items ackers ackers l.fn.row.items l.row.items;
  many : length l.desks.items ≡ length l.fn.desks.items;
  up : UpTo task_left IsTaskHeld l.n l.moved l.fn.desks.items l.desks.items l.fn.row.items l.row.items;
}
