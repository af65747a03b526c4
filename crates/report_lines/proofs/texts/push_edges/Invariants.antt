use Rattle.std.proofs.Common.{◌≡◌, ◌++◌, take, string_bytes}
use Rattle.std.specs.List.{flat_map}
use Rattle.report_lines.proofs.Joined.{later_edge}
use Rattle.report_lines.proofs.texts.push_edges.Given as goal

abbrev pub invariant-loop-edge : goal.invariant-loop-edge
invariant-loop-edge l =
    string_bytes l.text ≡ string_bytes l.initial.text ++ flat_map later_edge (take l.edge-index l.others)
