use Rattle.tuple_account.proofs.Moving.{reached-none, reached-then}
use Rattle.tuple_account.proofs.moves.reached_goes_on.Goals as goal

pub returns-clause-first : goal.returns-clause-first
returns-clause-first c = reached-none

pub returns-clause-then : goal.returns-clause-then
returns-clause-then c = reached-then
