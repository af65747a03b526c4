use Rattle.task_queues.proofs.Steps.{takes, stands}
use Rattle.task_queues.proofs.Exact.{take_whole, take_stamp, take_numbers}
use Rattle.task_queues.proofs.pass.Mailbox.take.Goals as goal

pub pop_as-requires-clause-rule : goal.pop_as-requires-clause-rule
pop_as-requires-clause-rule g c = (takes g.M.Truth.is_true _ _ c.args.pass.now.named c.args.pass.now.some_book, stands g.M.Truth.is_true _ _ c.args.pass.now.named)

pub returns-clause-taken : goal.returns-clause-taken
returns-clause-taken g c = take_stamp g.M.Truth.is_true _ _ c.pop_as.result c.pop_as.ensures.rule

pub returns-clause-whole : goal.returns-clause-whole
returns-clause-whole g c = take_whole g.M.Truth.is_true _ _ c.pop_as.result c.pop_as.ensures.rule

pub returns-clause-numbers : goal.returns-clause-numbers
returns-clause-numbers g c = take_numbers g.M.Truth.is_true _ _ _ c.pop_as.result c.pop_as.ensures.rule
