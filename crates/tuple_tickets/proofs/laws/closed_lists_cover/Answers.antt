use Rattle.tuple_tickets.proofs.Odd.{odd}
use Rattle.tuple_tickets.proofs.Words.{covered_if_closed}
use Rattle.tuple_tickets.proofs.laws.closed_lists_cover.Goals as goal

pub returns-clause-covers : goal.returns-clause-covers
returns-clause-covers g c = λ growth root list all_true closed one_init. covered_if_closed growth root list all_true one_init closed

pub returns-clause-odd : goal.returns-clause-odd
returns-clause-odd g c = λ growth root list all_true closed one_init. odd growth root list all_true one_init closed
