use Rattle.commit_turns.proofs.Finishing.{finished_where, whole_then}
use Rattle.commit_turns.proofs.laws.finished_runs_are_whole.Goals as goal

pub returns-clause-whole : goal.returns-clause-whole
returns-clause-whole c = whole_then

pub returns-clause-batches : goal.returns-clause-batches
returns-clause-batches c = λ t cut d fates start kept none. finished_where t cut start d fates kept none
