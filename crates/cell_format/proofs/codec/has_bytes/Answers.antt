use Rattle.std.proofs.Common.{sym, ap, ◌∙◌, get_or, is_some, eqb-true, eq-eqb}
use Rattle.cell_format.specs.Layout.{number_if}
use Rattle.cell_format.proofs.ReadLemmas.{are_bytes, value_told, prev_told, bytes_read, cell_pieces, both_true, all_true}
use Rattle.cell_format.proofs.codec.has_bytes.Goals as goal

pub has_number-has_value-requires-clause-read : goal.has_number-has_value-requires-clause-read
has_number-has_value-requires-clause-read c =
    value_told c.args.has_attempt c.args.bytes.now c.args.cell.now c.requires.read ∙ ap (number_if (is_some c.args.cell.now.value)) (sym c.value_bytes.ensures.value)

pub has_number-has_prev-requires-clause-read : goal.has_number-has_prev-requires-clause-read
has_number-has_prev-requires-clause-read c =
    prev_told c.args.has_attempt c.args.bytes.now c.args.cell.now c.requires.read ∙ ap (number_if (is_some c.args.cell.now.prev)) (sym c.prev_bytes.ensures.value)

pub returns : goal.returns
returns c = (
  λ all.
      let three = both_true _ _ all in
      let two = both_true _ _ three.0 in
      let one = both_true _ _ two.0 in (
        c.is_whole-is_whole.ensures.0 one.0,
        bytes_read c.args.has_attempt c.args.bytes.now c.args.cell.now c.requires.length c.requires.version (are_bytes c.args.bytes.now c.type_inv.bytes) c.requires.read
            (eqb-true (get_or c.args.bytes.now 1 0) c.flags.result one.1 ∙ c.flags.ensures)
            (sym c.value_bytes.ensures.value ∙ c.has_number-has_value.ensures.0 two.1)
            (sym c.prev_bytes.ensures.value ∙ c.has_number-has_prev.ensures.0 three.1),
      ),
  λ given.
      let at = cell_pieces c.args.has_attempt c.args.bytes.now c.args.cell.now given.1 in
      let one = all_true _ _ (c.is_whole-is_whole.ensures.1 given.0) (eq-eqb (get_or c.args.bytes.now 1 0) c.flags.result (at.0 ∙ sym c.flags.ensures)) in
      let two = all_true _ _ one (c.has_number-has_value.ensures.1 (c.value_bytes.ensures.value ∙ at.1)) in
      all_true _ _ two (c.has_number-has_prev.ensures.1 (c.prev_bytes.ensures.value ∙ at.2)),
)
