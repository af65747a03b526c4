use Rattle.std.proofs.Common.{ap, sym, get_or, ◌∙◌, Ok}
use Rattle.cell_format.specs.Layout.{read_by}
use Rattle.cell_format.proofs.LayoutLemmas.{by_length, has_version, head-bytes_by, is_refuted, read_by-bytes_by}
use Rattle.cell_format.proofs.codec.decode_format.Goals as goal

pub returns-then-bytes-version-clause-read : goal.returns-then-bytes-version-clause-read
returns-then-bytes-version-clause-read c = λ cell is are.
    let same = by_length c.args.has_attempt cell c.args.bytes.now are c.requires in
    absurd (c.if-bytes-version.true (ap (λ xs. get_or xs 0 0) same.0 ∙ head-bytes_by c.args.has_attempt cell 0 ∙ sym c.version.ensures))

pub returns-then-has_bytes-clause-read : goal.returns-then-has_bytes-clause-read
returns-then-has_bytes-clause-read c = λ cell is are.
    let same = by_length c.args.has_attempt cell c.args.bytes.now are c.requires in
    ap Ok (c.read_cell-cell.ensures ∙ ap (read_by c.args.has_attempt) same.0 ∙ read_by-bytes_by c.args.has_attempt cell is same.1)

pub returns-else-has_bytes-clause-read : goal.returns-else-has_bytes-clause-read
returns-else-has_bytes-clause-read c = λ cell is are.
    absurd (is_refuted c.args.has_attempt c.args.bytes.now c.read_cell-cell.result cell c.has_bytes.result c.requires c.if-has_bytes.false c.has_bytes.ensures.1 c.read_cell-cell.ensures is are)

pub returns-else-has_bytes-clause-flag : goal.returns-else-has_bytes-clause-flag
returns-else-has_bytes-clause-flag c = λ _. (
  has_version c.args.has_attempt c.args.bytes.now c.requires (c.if-bytes-version.false ∙ c.version.ensures),
  λ cell is are. is_refuted c.args.has_attempt c.args.bytes.now c.read_cell-cell.result cell c.has_bytes.result c.requires c.if-has_bytes.false c.has_bytes.ensures.1 c.read_cell-cell.ensures is are,
)
