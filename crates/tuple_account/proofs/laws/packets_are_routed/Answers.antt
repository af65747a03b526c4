use Rattle.tuple_account.proofs.Routing.{routed}
use Rattle.tuple_account.proofs.laws.packets_are_routed.Goals as goal

pub returns : goal.returns
returns c = routed
