use Rattle.tuple_tickets.proofs.Words.{none_coincide}
use Rattle.tuple_tickets.proofs.laws.what_does_not_cancel_does_not_coincide.Goals as goal

pub returns : goal.returns
returns c = none_coincide
