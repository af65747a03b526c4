use Rattle.std.proofs.Common.{◌≡◌, fold, take}
use Rattle.storm_values.specs.Keys.{fnv_step}
use Rattle.storm_values.proofs.keys.mix.Given as goal

abbrev pub invariant-loop-byte : goal.invariant-loop-byte
invariant-loop-byte l = l.mixed ≡ fold fnv_step l.hash (take l.byte-index l.bytes)
