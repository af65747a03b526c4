use Rattle.state_parts.proofs.TableLaw.{tables_are}
use Rattle.state_parts.proofs.laws.tables_of_parts_are_tables_of_writes.Goals as goal

pub returns : goal.returns
returns g c = λ t custom n done next parts tables wired planned placed one are zipped. tables_are g.C.CellStore.tells t custom n done next parts tables wired planned placed one are zipped
