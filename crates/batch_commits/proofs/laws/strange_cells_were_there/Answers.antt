use Rattle.batch_commits.proofs.Strange.{bad_before, strange_before, strange_cell, strange_row}
use Rattle.batch_commits.proofs.laws.strange_cells_were_there.Goals as goal

pub returns-clause-commit : goal.returns-clause-commit
returns-clause-commit g c = λ custom root made old new key texts done strange. strange_before g.C.CellStore.tells custom root made old new key texts done strange

pub returns-clause-bad_before : goal.returns-clause-bad_before
returns-clause-bad_before g c = λ custom root made old new key done bad. bad_before g.C.CellStore.tells custom root made old new key done bad

pub returns-clause-bad_cell : goal.returns-clause-bad_cell
returns-clause-bad_cell g c = λ parts key bad. strange_cell g.C.CellStore.tells parts key bad

pub returns-clause-bad_row : goal.returns-clause-bad_row
returns-clause-bad_row g c = λ parts key bad. strange_row g.C.CellStore.tells parts key bad
