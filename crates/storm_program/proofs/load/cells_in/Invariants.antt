use Rattle.std.proofs.Common.{◌≡◌, take}
use Rattle.storm_program.specs.Load.{cells_in}
use Rattle.storm_program.proofs.load.cells_in.Given as goal

abbrev pub invariant-loop-table : goal.invariant-loop-table
invariant-loop-table l = l.count ≡ cells_in (take l.table-index l.tables)
