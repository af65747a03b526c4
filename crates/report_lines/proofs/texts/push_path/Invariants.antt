use Rattle.std.proofs.Common.{◌≡◌, ◌++◌, take, string_bytes}
use Rattle.std.specs.List.{flat_map}
use Rattle.report_lines.proofs.Joined.{later_number}
use Rattle.report_lines.proofs.texts.push_path.Given as goal

abbrev pub invariant-loop-number : goal.invariant-loop-number
invariant-loop-number l =
    string_bytes l.text ≡ string_bytes l.initial.text ++ flat_map later_number (take l.number-index l.others)
