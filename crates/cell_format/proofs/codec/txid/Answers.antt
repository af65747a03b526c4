use Rattle.cell_format.specs.Layout.{txid_bytes}
use Rattle.cell_format.proofs.codec.txid.Goals as goal

pub returns : goal.returns
unfolding txid_bytes
returns c = c.to_be_bytes.ensures
