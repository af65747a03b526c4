use Rattle.cell_format.proofs.LayoutLemmas.{some_length}
use Rattle.cell_format.proofs.codec.decode_cell.Goals as goal

pub returns-in-None-clause-read : goal.returns-in-None-clause-read
returns-in-None-clause-read c = λ cell is are. absurd (some_length cell c.args.bytes.now are (c.format_of.ensures.none c.in-None.is))
