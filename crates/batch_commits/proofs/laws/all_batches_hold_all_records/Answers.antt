use Rattle.batch_commits.proofs.Holding.{first_hold, first_records, holds_known}
use Rattle.batch_commits.proofs.laws.all_batches_hold_all_records.Goals as goal

pub returns-clause-hold : goal.returns-clause-hold
returns-clause-hold c = first_hold

pub returns-clause-records : goal.returns-clause-records
returns-clause-records c = first_records

pub returns-clause-known : goal.returns-clause-known
returns-clause-known c = holds_known
