use Rattle.std.proofs.Common.{◌≡◌, ◌++◌, take, string_bytes}
use Rattle.std.specs.List.{flat_map}
use Rattle.report_grammar.specs.Report.{cell_text}
use Rattle.run_report.specs.Cells.{cells_of}
use Rattle.run_report.proofs.report.push_cells.Given as goal

abbrev pub invariant-loop-table : goal.invariant-loop-table
invariant-loop-table l =
    string_bytes l.text ≡ string_bytes l.fn.text ++ flat_map cell_text (cells_of (take l.table-index l.tables))
