use Rattle.std.proofs.Common.{◌≡◌, ◌++◌, suc, drop, string_bytes}
use Rattle.track_report.specs.Lines.{record_lines}
use Rattle.track_report.proofs.text.push_records.Given as goal

abbrev pub invariant-loop-place : goal.invariant-loop-place
invariant-loop-place l =
    string_bytes l.text ++ record_lines (suc l.place) (drop l.place l.ends) ≡ string_bytes l.fn.text ++ record_lines 1 l.ends
