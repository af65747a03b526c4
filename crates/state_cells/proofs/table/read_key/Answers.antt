use Rattle.std.proofs.Common.{◌≡◌, rules, sym, subst, ◌∙◌, Some}
use Rattle.std.specs.Str.{IsUtf8}
use Rattle.cell_format.specs.Commits.{value_of}
use Rattle.state_cells.proofs.RowLemmas.{bad_row}
use Rattle.state_cells.proofs.table.read_key.Goals as goal

pub returns-in-Some-Some-clause-bad : goal.returns-in-Some-Some-clause-bad
returns-in-Some-Some-clause-bad g c = λ k is cells told.
    let told_bad = c.add_row.ensures.bad k is in
    let value : value_of c.in-Ok.cell ≡ Some c.in-Some-Some.value = search rules in
    bad_row c.args.kind cells k c.as_slice.result.now c.in-Ok.cell c.in-Some-Some.value (told_bad.0 ∙ sym c.as_slice.ensures)
    (c.in-Ok.ensures.found cells (c.key_at.ensures.same cells told)) value (λ text. told_bad.1 (subst IsUtf8 c.as_slice.ensures text))
