use Rattle.std.proofs.Common.{◌≡◌, map, take}
use Rattle.report_lines.specs.Told.{cell_told}
use Rattle.run_report.specs.Cells.{cells_of}
use Rattle.run_report.proofs.values.cells_in.Given as goal

abbrev pub invariant-loop-table : goal.invariant-loop-table
invariant-loop-table l = map cell_told l.cells ≡ cells_of (take l.table-index l.tables)
