use Rattle.std.proofs.Common.{◌≡◌, None, refl, sym, subst}
use Rattle.report_grammar.specs.Lines.{LineText}
use Rattle.report_grammar.specs.steps.Gathered.{with_line}
use Rattle.report_grammar.proofs.Gathering.{same_line}
use Rattle.report_lines.specs.Told.{line_told}
use Rattle.report_lines.specs.steps.Gathered.{gathered_told}
use Rattle.report_lines.proofs.reading.take_line.Goals as goal

pub returns-else-branch-clause-fault : goal.returns-else-branch-clause-fault
returns-else-branch-clause-fault c =
    let says = rw c.in-Some.is at c.in_ok-read.ensures.says in
    let adds = rw c.if-branch.false at c.in_ok-add.ensures in (
      refl,
      λ line other.
          subst (λ (l : LineText). with_line (gathered_told c.args.gathered.now) l ≡ None) (sym (same_line c.args.line.now line (line_told c.in-Some.read) other says)) adds,
    )
