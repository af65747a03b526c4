use Rattle.report_grammar.proofs.LinesBack.{value_negative}
use Rattle.report_lines.proofs.cells.value_of.Goals as goal

pub returns-in-Some : goal.returns-in-Some
returns-in-Some c = λ value fits is.
    value_negative value fits c.args.text.now c.in-Some.digits.now is c.in-Some.ensures c.magnitude_of.result c.magnitude_of.ensures c.negative_of.result c.negative_of.ensures
