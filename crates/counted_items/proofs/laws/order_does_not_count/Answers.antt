use Rattle.counted_items.proofs.Sums.{same-IsPermutation}
use Rattle.counted_items.proofs.laws.order_does_not_count.Goals as goal

pub returns : goal.returns
returns g c = same-IsPermutation
