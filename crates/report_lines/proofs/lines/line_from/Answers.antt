use Rattle.std.proofs.Common.{option_map, ap, sym, ◌∙◌}
use Rattle.report_grammar.specs.Lines.{cell}
use Rattle.report_grammar.proofs.LinesBack.{attempt_there, tail_there, cell_there}
use Rattle.report_lines.specs.Told.{attempt_told, cell_told, tail_told}
use Rattle.report_lines.proofs.lines.line_from.Goals as goal

pub returns-in-Some : goal.returns-in-Some
returns-in-Some c =
    attempt_there c.args.line.now c.body_of-body.result.now c.body_of-body.ensures (attempt_told c.in-Some.attempt)
    (sym (ap (option_map attempt_told) c.in-Some.is) ∙ c.in_ok-attempt.ensures)

pub returns-in-Some-read_tail : goal.returns-in-Some-read_tail
returns-in-Some-read_tail c =
    tail_there c.args.line.now c.body_of-body.result.now c.body_of-body.ensures
    (sym (ap (option_map attempt_told) c.in_default.is) ∙ c.in_ok-attempt.ensures) (tail_told c.in-Some-read_tail.tail) c.in-Some-read_tail.ensures

pub returns-in-Some-2 : goal.returns-in-Some-2
returns-in-Some-2 c = λ told is text.
    sym (ap (λ r. option_map cell (option_map cell_told r)) c.in-Some-2.is)
    ∙ cell_there c.args.line.now c.body_of-body.result.now c.body_of-body.ensures
    (sym (ap (option_map attempt_told) c.in_default.is) ∙ c.in_ok-attempt.ensures) c.in_default-read_tail.ensures (option_map cell_told c.in_ok-cell.field-0) c.in_ok-cell.ensures told is text

pub returns-in-None : goal.returns-in-None
returns-in-None c = λ told is text.
    sym (ap (λ r. option_map cell (option_map cell_told r)) c.in-None.is)
    ∙ cell_there c.args.line.now c.body_of-body.result.now c.body_of-body.ensures
    (sym (ap (option_map attempt_told) c.in_default.is) ∙ c.in_ok-attempt.ensures) c.in_default-read_tail.ensures (option_map cell_told c.in_ok-cell.field-0) c.in_ok-cell.ensures told is text
