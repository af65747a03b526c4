use Rattle.cell_format.specs.Commits.{amounts_at}
use Rattle.cell_format.proofs.CommitLemmas.{Stands-begun, Stands-moved, Stands-none, perhaps_if_done}
use Rattle.cell_format.proofs.laws.commits_move_parts_on.Goals as goal

pub returns-clause-begins : goal.returns-clause-begins
returns-clause-begins c = Stands-none

pub returns-clause-moved : goal.returns-clause-moved
returns-clause-moved c = λ kind by parts part t root done next more old new next_is. Stands-moved kind by parts part t root next_is done next old new more

pub returns-clause-begun : goal.returns-clause-begun
returns-clause-begun c = λ kind by parts part t root done next old new next_is. Stands-begun kind by parts part t root next_is done next old new

pub returns-clause-done : goal.returns-clause-done
returns-clause-done c = λ kind by parts part t root done next old new next_is stands own each.
    Stands-begun kind by parts part t root next_is done next old new stands own (λ key. perhaps_if_done kind by root (amounts_at next key) (old key) (new key) (each key))
