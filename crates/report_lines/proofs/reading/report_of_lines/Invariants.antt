use Rattle.std.proofs.Common.{◌≡◌, ◌+◌, ◌≤◌, ◌++◌, length}
use Rattle.report_grammar.specs.Lines.{lines_in}
use Rattle.report_grammar.proofs.Gathering.{IsGathered, lines_so_far, texts_so_far}
use Rattle.report_lines.specs.steps.Gathered.{gathered_told}
use Rattle.report_lines.proofs.reading.report_of_lines.Given as goal

abbrev pub invariant-loop-rest : goal.invariant-loop-rest
invariant-loop-rest l = record {
  lines : texts_so_far (gathered_told l.gathered) ++ lines_in l.rest ≡ lines_in l.bytes;
  are : IsGathered (gathered_told l.gathered);
  number : l.number ≡ length (lines_so_far (gathered_told l.gathered));
  few : l.number + length l.rest ≤ length l.bytes;
}

abbrev pub decreases-loop-rest : goal.decreases-loop-rest
decreases-loop-rest l = length l.rest
