use Rattle.topology_graph.proofs.ValueLemmas.{settled_by_rank}
use Rattle.topology_graph.proofs.numbers.ranks_settle_depths.Goals as goal

pub returns : goal.returns
returns c = settled_by_rank
