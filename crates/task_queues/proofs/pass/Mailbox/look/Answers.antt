use Rattle.crossbeam_queue.specs.Passes.{view}
use Rattle.task_queues.proofs.Steps.{stands}
use Rattle.task_queues.proofs.Looking.{holds_rest}
use Rattle.task_queues.proofs.pass.Mailbox.look.Goals as goal

pub learn_as-requires-clause-rule : goal.learn_as-requires-clause-rule
learn_as-requires-clause-rule g c = stands g.M.Truth.is_true _ _ c.args.pass.now.named

pub returns-clause-holds : goal.returns-clause-holds
returns-clause-holds g c =
    holds_rest g.M.Truth.is_true (view c.args.pass.now.inner) c.learn_as.ensures.rule.0 c.args.pass.now.some_book c.learn_as.ensures.rule.1
