use Rattle.std.proofs.Common.{◌≡◌, ◌++◌, take, map, string_bytes}
use Rattle.std.specs.List.{flat_map}
use Rattle.report_grammar.specs.Report.{cell_text}
use Rattle.run_report.specs.Cells.{cell_of}
use Rattle.run_report.proofs.report.push_table.Given as goal

abbrev pub invariant-loop-pair : goal.invariant-loop-pair
invariant-loop-pair l =
    string_bytes l.text ≡ string_bytes l.fn.text ++ flat_map cell_text (map (cell_of l.name) (take l.pair-index l.pairs))
