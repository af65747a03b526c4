use Rattle.counted_items.proofs.Sums.{weigh-sum_by}
use Rattle.counted_items.proofs.laws.lists_weigh_sums.Goals as goal

pub returns : goal.returns
returns g c = weigh-sum_by
