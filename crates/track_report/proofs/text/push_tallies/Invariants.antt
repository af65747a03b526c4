use Rattle.std.proofs.Common.{◌≡◌, ◌++◌, drop, string_bytes}
use Rattle.track_report.specs.Lines.{tally_lines}
use Rattle.track_report.proofs.text.push_tallies.Given as goal

abbrev pub invariant-loop-number : goal.invariant-loop-number
invariant-loop-number l =
    string_bytes l.text ++ tally_lines (drop l.number l.plan.components) (drop l.number l.tallies)
    ≡ string_bytes l.fn.text ++ tally_lines l.plan.components l.tallies
