use Rattle.std.proofs.Common.{◌≡◌}
use Rattle.task_queues.specs.Books.{numbers_of}
use Rattle.task_queues.specs.Passes.{IsPassOf, view_of}
use Rattle.queue_tests.proofs.together.take_all.Given as goal

abbrev pub invariant-loop-place : goal.invariant-loop-place
invariant-loop-place g l = IsPassOf l.mailbox l.pass × (numbers_of (view_of l.pass) ≡ numbers_of (view_of l.fn.pass))
