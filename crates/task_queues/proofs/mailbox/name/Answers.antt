use Rattle.task_queues.proofs.Steps.{begins}
use Rattle.task_queues.proofs.mailbox.name.Goals as goal

pub another-requires-clause-rule : goal.another-requires-clause-rule
another-requires-clause-rule g c = begins g.M.Truth.is_true _ _ _ _ _ c.requires.blank
