use Rattle.tuple_tickets.proofs.Words.{complete_covers}
use Rattle.tuple_tickets.proofs.laws.complete_lists_cover.Goals as goal

pub returns : goal.returns
returns g c = complete_covers
