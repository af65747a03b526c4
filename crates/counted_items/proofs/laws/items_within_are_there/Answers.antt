use Rattle.counted_items.proofs.Counts.{times-within}
use Rattle.counted_items.proofs.laws.items_within_are_there.Goals as goal

pub returns : goal.returns
returns g c = times-within
