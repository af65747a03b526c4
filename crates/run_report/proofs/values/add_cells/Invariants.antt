use Rattle.std.proofs.Common.{◌≡◌, ◌++◌, map, take}
use Rattle.report_lines.specs.Told.{cell_told}
use Rattle.run_report.specs.Cells.{cell_of}
use Rattle.run_report.proofs.values.add_cells.Given as goal

abbrev pub invariant-loop-pair : goal.invariant-loop-pair
invariant-loop-pair l =
    map cell_told l.into ≡ map cell_told l.fn.into ++ map (cell_of l.name) (take l.pair-index l.pairs)
