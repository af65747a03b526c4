use Rattle.cell_format.proofs.CommitLemmas.{Holds-one}
use Rattle.cell_format.proofs.LayoutLemmas.{bytes_of-apart}
use Rattle.cell_format.proofs.laws.bytes_tell_cells_apart.Goals as goal

pub returns-clause-bytes : goal.returns-clause-bytes
returns-clause-bytes c = bytes_of-apart

pub returns-clause-held : goal.returns-clause-held
returns-clause-held c = Holds-one
