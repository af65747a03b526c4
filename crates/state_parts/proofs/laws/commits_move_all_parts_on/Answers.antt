use Rattle.state_parts.proofs.StandingLemmas.{all_begun, all_moved, all_stand}
use Rattle.state_parts.proofs.laws.commits_move_all_parts_on.Goals as goal

pub returns-clause-moved : goal.returns-clause-moved
returns-clause-moved g c = λ t custom n root done next more old new next_is stand placed committed. all_moved g.C.CellStore.tells t custom n root next_is done next placed more old new stand committed

pub returns-clause-begun : goal.returns-clause-begun
returns-clause-begun g c = λ t custom n root done next old new next_is stand placed committed. all_begun g.C.CellStore.tells t custom n root next_is done next placed old new stand committed

pub returns-clause-stand : goal.returns-clause-stand
returns-clause-stand g c = λ t custom n done next parts are. all_stand g.C.CellStore.tells t custom n done next parts are
