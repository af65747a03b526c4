use Rattle.std.proofs.Common.{◌≡◌, ◌++◌, take, map, string_bytes}
use Rattle.std.specs.List.{flat_map}
use Rattle.report_grammar.specs.Report.{attempt_text}
use Rattle.report_lines.specs.Told.{attempt_told}
use Rattle.report_lines.proofs.printed.push_attempts.Given as goal

abbrev pub invariant-loop-line : goal.invariant-loop-line
invariant-loop-line l =
    string_bytes l.text ≡ string_bytes l.fn.text ++ flat_map attempt_text (map attempt_told (take l.line-index l.lines))
