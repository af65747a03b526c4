use Rattle.acker_core.proofs.OwnEntries.{by_itself}
use Rattle.acker_core.proofs.laws.entries_go_by_their_roots.Goals as goal

pub returns : goal.returns
returns c = by_itself
