use Rattle.std.proofs.Common.{◌≡◌, ◌++◌, map}
use Rattle.storm_stores.specs.declared.key.KeyBytes.{KeyBytes}
use Rattle.state_cells.specs.Known.{keys_in}
use Rattle.state_cells.specs.Groups.{jobs_in}
use Rattle.state_cells.proofs.known.keys_of.Given as goal

abbrev pub invariant-loop-key : goal.invariant-loop-key
invariant-loop-key l = l.keys.items ++ map (λ (k : KeyBytes). k.bytes.now) l.key-iterator ≡ keys_in (jobs_in l.groups)
