use Rattle.task_queues.proofs.Steps.{sends, stands}
use Rattle.task_queues.proofs.Exact.{send_whole, send_numbers}
use Rattle.task_queues.proofs.pass.Mailbox.send.Goals as goal

pub push_as-requires-clause-rule : goal.push_as-requires-clause-rule
push_as-requires-clause-rule g c = (
  sends g.M.Truth.is_true _ _ _ _ c.args.pass.now.named c.args.pass.now.some_book c.requires.pass.capacity c.requires.is_true,
  stands g.M.Truth.is_true _ _ c.args.pass.now.named,
)

pub returns-clause-whole : goal.returns-clause-whole
returns-clause-whole g c = send_whole g.M.Truth.is_true _ _ _ _ c.push_as.result c.push_as.ensures.rule c.requires.pass.capacity

pub returns-clause-numbers : goal.returns-clause-numbers
returns-clause-numbers g c = send_numbers _ _ _ _ c.push_as.result c.push_as.ensures.rule
