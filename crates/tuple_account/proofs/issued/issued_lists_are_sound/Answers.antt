use Rattle.tuple_account.proofs.Sound.{are_true, are_single, are_steady}
use Rattle.tuple_account.proofs.issued.issued_lists_are_sound.Goals as goal

pub returns-clause-are_true : goal.returns-clause-are_true
returns-clause-are_true c = are_true

pub returns-clause-are_single : goal.returns-clause-are_single
returns-clause-are_single c = are_single

pub returns-clause-are_steady : goal.returns-clause-are_steady
returns-clause-are_steady c = are_steady
