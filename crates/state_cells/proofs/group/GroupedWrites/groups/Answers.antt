use Rattle.state_cells.proofs.GroupLemmas.{jobs_apart}
use Rattle.state_cells.proofs.group.GroupedWrites.groups.Goals as goal

pub returns-clause-apart : goal.returns-clause-apart
returns-clause-apart c = jobs_apart c.args.self.now.groups.entries c.len-count.ensures.unique
