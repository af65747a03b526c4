use Rattle.std.proofs.Common.{◌≡◌, ◌+◌, ◌==◌, not, drop}
use Rattle.std.specs.List.{prefix_len}
use Rattle.report_lines.proofs.cursor.length_before.Given as goal

abbrev pub invariant-loop-found : goal.invariant-loop-found
invariant-loop-found l = record {
  count : l.count + prefix_len (λ b. not (b == l.byte)) (drop l.found-index l.text) ≡ prefix_len (λ b. not (b == l.byte)) l.text;
  same : l.count ≡ l.found-index;
}
