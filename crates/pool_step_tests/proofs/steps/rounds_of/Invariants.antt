use Rattle.worker_pool.specs.Workers.{IsAtWork}
use Rattle.pool_step_tests.proofs.steps.rounds_of.Given as goal

abbrev pub invariant-loop-count : goal.invariant-loop-count
invariant-loop-count g l = IsAtWork l.posts.plan.now l.posts.boxes.items l.board l.at_work
