use Rattle.task_queues.specs.Passes.{view_of}
use Rattle.queue_tests.proofs.Passes.{two_kept, same_kept}
use Rattle.queue_tests.proofs.alone.use_second.Goals as goal

pub returns-clause-numbers : goal.returns-clause-numbers
returns-clause-numbers g c = λ others numbered.
    c.join.ensures.numbered others
    (two_kept (view_of c.split.new.pass) (view_of c.send-sent.new.pass) (view_of c.in_ok-second.second) (view_of c.send-also.new.pass) others
    (same_kept (view_of c.split.new.pass) (view_of c.send-sent.new.pass) c.send-sent.ensures.numbers)
    (λ beside before. same_kept (view_of c.use_third.new.second) (view_of c.send-also.new.pass) c.send-also.ensures.numbers beside (c.in_ok-came.ensures.numbers beside before))
    (c.in_ok-second.ensures.numbered others numbered))
