use Rattle.std.proofs.Common.{refl, replicate, ap, ◌∙◌, length}
use Rattle.cell_format.specs.Layout.{bytes_with}
use Rattle.cell_format.proofs.LayoutLemmas.{laid, length-txid_bytes, length-attempt_bytes, length-number_bytes}
use Rattle.cell_format.proofs.codec.encode_cell.Goals as goal

pub returns : goal.returns
unfolding bytes_with
returns c =
    let whole = laid 2 c.flags.result c.txid.result c.attempt.result c.number.result c.number-2.result (replicate 44 0)
    (ap length c.txid.ensures ∙ length-txid_bytes c.args.cell.now.txid) (ap length c.attempt.ensures ∙ length-attempt_bytes c.args.cell.now.attempt)
    (ap length c.number.ensures ∙ length-number_bytes c.args.cell.now.value) (ap length c.number-2.ensures ∙ length-number_bytes c.args.cell.now.prev) refl
    c.place.new.bytes c.place-2.new.bytes c.place-3.new.bytes c.place-4.new.bytes c.place.ensures c.place-2.ensures c.place-3.ensures c.place-4.ensures in
    rw (whole, c.flags.ensures, c.txid.ensures, c.attempt.ensures, c.number.ensures, c.number-2.ensures) refl
