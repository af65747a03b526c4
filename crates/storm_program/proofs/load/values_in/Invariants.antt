use Rattle.std.proofs.Common.{◌≡◌, take}
use Rattle.storm_program.specs.Load.{values_in}
use Rattle.storm_program.proofs.load.values_in.Given as goal

abbrev pub invariant-loop-table : goal.invariant-loop-table
invariant-loop-table l = l.sum ≡ values_in (take l.table-index l.tables)
