use Rattle.state_parts.proofs.MigrateLemmas.{kept_are_at, kept_stand}
use Rattle.state_parts.proofs.migrate.parts_with_the_same_cells_stand.Goals as goal

pub returns-clause-stand : goal.returns-clause-stand
returns-clause-stand g c = λ t custom n done next old new kept stand. kept_stand g.C.CellStore.tells g.C.CellStore.fault_count t custom n done next old new kept stand

pub returns-clause-are_at : goal.returns-clause-are_at
returns-clause-are_at g c = λ t custom n done next old new kept stand. kept_are_at g.C.CellStore.tells g.C.CellStore.fault_count t custom n done next old new kept stand
