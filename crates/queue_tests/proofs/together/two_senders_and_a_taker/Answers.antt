use Rattle.task_queues.specs.Passes.{view_of}
use Rattle.queue_tests.proofs.Passes.{whole_kept}
use Rattle.queue_tests.proofs.together.two_senders_and_a_taker.Goals as goal

pub is_left-requires-clause-whole : goal.is_left-requires-clause-whole
is_left-requires-clause-whole g c = whole_kept (view_of c.in_ok-mailbox.pass) (view_of c.in_ok-pass.pass) c.in_ok-pass.ensures.numbers c.in_ok-mailbox.ensures.whole
