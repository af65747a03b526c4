use Rattle.std.proofs.Common.{◌≡◌, take}
use Rattle.storm_program.specs.Load.{with_values}
use Rattle.storm_program.proofs.load.with_values.Given as goal

abbrev pub invariant-loop-pair : goal.invariant-loop-pair
invariant-loop-pair l = l.all ≡ with_values l.fn.sum (take l.pair-index l.pairs)
