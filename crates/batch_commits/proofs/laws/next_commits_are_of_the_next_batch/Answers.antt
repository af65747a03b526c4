use Rattle.batch_commits.proofs.Next.{next_batch, next_left, next_number}
use Rattle.batch_commits.proofs.laws.next_commits_are_of_the_next_batch.Goals as goal

pub returns-clause-number : goal.returns-clause-number
returns-clause-number c = next_number

pub returns-clause-batch : goal.returns-clause-batch
returns-clause-batch c = next_batch

pub returns-clause-left : goal.returns-clause-left
returns-clause-left c = next_left
