use Rattle.tuple_account.proofs.Entering.{moves-start, moves-begin, moves-execute, moves-meet, moves-rotate}
use Rattle.tuple_account.proofs.Moving.{moves-hand_over, moves-hear}
use Rattle.tuple_account.proofs.moves.work_moves.Goals as goal

pub returns-clause-hand_over : goal.returns-clause-hand_over
returns-clause-hand_over c = moves-hand_over

pub returns-clause-start : goal.returns-clause-start
returns-clause-start c = moves-start

pub returns-clause-begin : goal.returns-clause-begin
returns-clause-begin c = moves-begin

pub returns-clause-execute : goal.returns-clause-execute
returns-clause-execute c = moves-execute

pub returns-clause-meet : goal.returns-clause-meet
returns-clause-meet c = moves-meet

pub returns-clause-rotate : goal.returns-clause-rotate
returns-clause-rotate c = moves-rotate

pub returns-clause-hear : goal.returns-clause-hear
returns-clause-hear c = moves-hear
