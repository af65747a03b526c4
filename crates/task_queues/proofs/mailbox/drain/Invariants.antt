use Rattle.std.proofs.Common.{◌-◌, ◌≤◌, vec_capacity, length}
use Rattle.crossbeam_queue.specs.Passes.{view, IsPassOf}
use Rattle.task_queues.specs.Books.{sent_of, taken_of}
use Rattle.task_queues.proofs.Draining.{Drains}
use Rattle.task_queues.proofs.mailbox.drain.Given as goal

abbrev pub invariant-loop-message : goal.invariant-loop-message
invariant-loop-message g l =
    IsPassOf l.queue l.pass × Drains g.M.Truth.is_true (view l.fn.pass) (view l.pass) l.room.items × ((view l.fn.pass).capacity ≤ vec_capacity l.room)

abbrev pub decreases-loop-message : goal.decreases-loop-message
decreases-loop-message g l = length (sent_of (view l.pass).books) - length (taken_of (view l.pass).books)
