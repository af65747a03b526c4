use Rattle.storm_values.proofs.OrderLemmas.{value_cmp-total}
use Rattle.storm_values.proofs.value.value_order_is_total.Goals as goal

pub returns : goal.returns
returns c = value_cmp-total
