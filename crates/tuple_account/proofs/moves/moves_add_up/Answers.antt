use Rattle.tuple_account.proofs.Moving.{moves-then, moves-beside, moves-frame, moves-alike, drawn-both}
use Rattle.tuple_account.proofs.moves.moves_add_up.Goals as goal

pub returns-clause-then : goal.returns-clause-then
returns-clause-then c = moves-then

pub returns-clause-side_by_side : goal.returns-clause-side_by_side
returns-clause-side_by_side c = moves-beside

pub returns-clause-framed : goal.returns-clause-framed
returns-clause-framed c = moves-frame

pub returns-clause-alike : goal.returns-clause-alike
returns-clause-alike c = moves-alike

pub returns-clause-words : goal.returns-clause-words
returns-clause-words c = drawn-both
