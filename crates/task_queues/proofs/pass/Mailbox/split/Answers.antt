use Rattle.crossbeam_queue.specs.Passes.{view}
use Rattle.task_queues.proofs.Steps.{cuts}
use Rattle.task_queues.proofs.Exact.{split_others}
use Rattle.task_queues.proofs.pass.Mailbox.split.Goals as goal

pub another-inner-requires-clause-rule : goal.another-inner-requires-clause-rule
another-inner-requires-clause-rule g c = cuts g.M.Truth.is_true _ _ c.args.pass.now.named c.args.pass.now.some_book

pub returns-clause-numbered : goal.returns-clause-numbered
returns-clause-numbered g c = λ others.
    split_others (view c.args.pass.now.inner) (view c.another-inner.new.pass) (view c.another-inner.result) others c.args.pass.now.some_book c.another-inner.ensures.rule.0 c.another-inner.ensures.rule.1
