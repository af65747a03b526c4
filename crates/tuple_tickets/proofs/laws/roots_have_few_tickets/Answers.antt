use Rattle.tuple_tickets.proofs.Few.{few}
use Rattle.tuple_tickets.proofs.laws.roots_have_few_tickets.Goals as goal

pub returns : goal.returns
returns g c = few
