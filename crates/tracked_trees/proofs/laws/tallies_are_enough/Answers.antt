use Rattle.std.proofs.Common.{◌-◌, ◌^◌}
use Rattle.tree_model.specs.counted_items.Weights.{weigh}
use Rattle.tracked_trees.specs.Tries.{acked_writes, count_of}
use Rattle.tracked_trees.proofs.Enough.{counts, ended}
use Rattle.tracked_trees.proofs.laws.tallies_are_enough.Goals as goal

pub returns : goal.returns
returns c = λ t custom state key most rows. ended (2 ^ 64 - 1) (weigh (count_of t custom state key most) rows) (acked_writes t custom state key most rows) (counts t custom state key most rows)
