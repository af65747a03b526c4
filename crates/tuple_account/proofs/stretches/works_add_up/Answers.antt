use Rattle.tuple_account.proofs.Working.{works-then, works-hand, works-take, works-move, works-share}
use Rattle.tuple_account.proofs.stretches.works_add_up.Goals as goal

pub returns-clause-then : goal.returns-clause-then
returns-clause-then c = works-then

pub returns-clause-hand_over : goal.returns-clause-hand_over
returns-clause-hand_over c = works-hand

pub returns-clause-take : goal.returns-clause-take
returns-clause-take c = works-take

pub returns-clause-work : goal.returns-clause-work
returns-clause-work c = works-move

pub returns-clause-share : goal.returns-clause-share
returns-clause-share c = works-share
