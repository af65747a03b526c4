use Rattle.tuple_tickets.proofs.Told.{list_true, list_single, list_steady}
use Rattle.tuple_tickets.proofs.laws.issued_lists_are_sound.Goals as goal

pub returns-clause-are_true : goal.returns-clause-are_true
returns-clause-are_true g c = list_true

pub returns-clause-are_single : goal.returns-clause-are_single
returns-clause-are_single g c = list_single

pub returns-clause-are_steady : goal.returns-clause-are_steady
returns-clause-are_steady g c = list_steady
