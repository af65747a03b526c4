use Rattle.tracked_trees.proofs.Depths.{by_rows}
use Rattle.tracked_trees.proofs.laws.reached_counts_end.Goals as goal

pub returns : goal.returns
returns c = λ t custom attempt rows f. by_rows t custom attempt f rows
