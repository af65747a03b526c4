use Rattle.report_lines.specs.Told.{tail_told}
use Rattle.report_lines.specs.steps.Gathered.{gathered_told}
use Rattle.report_lines.proofs.GatheredLemmas.{no_end}
use Rattle.report_lines.proofs.gathered.Gathered.end_without_cells.Goals as goal

pub returns-then-not-is_empty : goal.returns-then-not-is_empty
returns-then-not-is_empty c =
    no_end (gathered_told c.args.self.now) (tail_told c.args.tail) c.args.self.now.cells c.is_empty.result c.is_empty.ensures c.if-not-is_empty.true
