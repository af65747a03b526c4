use Rattle.std.proofs.Common.{refl}
use Rattle.cell_format.proofs.codec.read_cell.Goals as goal

pub returns : goal.returns
returns c = rw (c.read_txid.ensures, c.read_attempt.ensures, c.read_if.ensures, c.read_if-2.ensures, c.value_bytes.ensures.value, c.prev_bytes.ensures.value, c.read_kind.ensures) refl
