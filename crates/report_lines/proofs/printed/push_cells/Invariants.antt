use Rattle.std.proofs.Common.{◌≡◌, ◌++◌, take, map, string_bytes}
use Rattle.std.specs.List.{flat_map}
use Rattle.report_grammar.specs.Report.{cell_text}
use Rattle.report_lines.specs.Told.{cell_told}
use Rattle.report_lines.proofs.printed.push_cells.Given as goal

abbrev pub invariant-loop-cell : goal.invariant-loop-cell
invariant-loop-cell l =
    string_bytes l.text ≡ string_bytes l.fn.text ++ flat_map cell_text (map cell_told (take l.cell-index l.cells))
