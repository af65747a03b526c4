use Rattle.std.proofs.Common.{◌≡◌, ◌++◌, take, string_bytes}
use Rattle.std.specs.List.{flat_map}
use Rattle.report_lines.proofs.Joined.{later_span}
use Rattle.report_lines.proofs.texts.push_spans.Given as goal

abbrev pub invariant-loop-span : goal.invariant-loop-span
invariant-loop-span l =
    string_bytes l.text ≡ string_bytes l.initial.text ++ flat_map later_span (take l.span-index l.others)
