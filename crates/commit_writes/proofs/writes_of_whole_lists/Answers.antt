use Rattle.commit_writes.proofs.Whole.{whole_writes}
use Rattle.commit_writes.proofs.writes_of_whole_lists.Goals as goal

pub returns : goal.returns
returns c = whole_writes
