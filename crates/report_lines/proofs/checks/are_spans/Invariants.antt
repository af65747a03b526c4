use Rattle.std.proofs.Common.{◌↔◌, drop}
use Rattle.std.specs.List.{AllByRecursion}
use Rattle.report_grammar.specs.WellFormed.{IsSpan}
use Rattle.report_lines.proofs.checks.are_spans.Given as goal

abbrev pub invariant-loop-span : goal.invariant-loop-span
invariant-loop-span l =
    AllByRecursion IsSpan (drop l.span-index l.spans) ↔ AllByRecursion IsSpan l.spans
