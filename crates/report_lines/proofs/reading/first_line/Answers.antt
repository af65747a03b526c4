use Rattle.std.proofs.Common.{◌∷◌, ap₂, sym, ◌∙◌}
use Rattle.report_grammar.specs.Lines.{lines_in}
use Rattle.report_grammar.proofs.Splitting.{lines_in-Some, lines_in-None}
use Rattle.report_lines.proofs.reading.first_line.Goals as goal

pub returns-in-Some-clause-lines : goal.returns-in-Some-clause-lines
returns-in-Some-clause-lines c =
    let cut = lines_in-Some c.args.bytes.now c.in-Some.end (sym c.in-Some.ensures) in
    cut ∙ ap₂ (λ line later. line ∷ lines_in later) (sym c.split_at.ensures.front) (sym c.split_at.ensures.back)

pub returns-in-None-clause-lines : goal.returns-in-None-clause-lines
returns-in-None-clause-lines c = lines_in-None c.args.bytes.now c.requires (sym c.in-None.ensures)
