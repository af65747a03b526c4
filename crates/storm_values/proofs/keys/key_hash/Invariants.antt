use Rattle.std.proofs.Common.{◌≡◌, fold, take}
use Rattle.storm_values.specs.Keys.{fnv_step, fnv_offset, key_bytes}
use Rattle.storm_values.proofs.keys.key_hash.Given as goal

abbrev pub invariant-loop-place : goal.invariant-loop-place
invariant-loop-place l = l.hash ≡ fold fnv_step fnv_offset (key_bytes (take l.place l.key))
