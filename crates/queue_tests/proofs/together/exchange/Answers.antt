use Rattle.std.proofs.Common.{◌∷◌}
use Rattle.task_queues.specs.Passes.{view_of}
use Rattle.queue_tests.proofs.Passes.{three_same}
use Rattle.queue_tests.proofs.together.exchange.Goals as goal

pub returns-clause-numbers : goal.returns-clause-numbers
returns-clause-numbers g c = λ others numbered.
    let cut = c.in_ok-first.ensures.numbered others numbered in
    let twice = c.in_ok-second.ensures.numbered (view_of c.in_ok-first.first ∷ others) cut in
    let sent = c.join-first.ensures.first in
    let took = c.join-first.ensures.second in
    c.join-2.ensures.numbered others
    (c.join.ensures.numbered (view_of c.join-first.result.0.0 ∷ others)
    (three_same (view_of c.split-2.new.pass) (view_of c.join-first.result.1.0) (view_of c.in_ok-second.second) (view_of c.join-first.result.0.1) (view_of c.in_ok-first.first) (view_of c.join-first.result.0.0) others
    took.1 sent.1.1.1 sent.1.1.0 twice))
