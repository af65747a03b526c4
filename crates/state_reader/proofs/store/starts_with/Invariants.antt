use Rattle.std.proofs.Common.{◌≡◌, take}
use Rattle.state_reader.proofs.store.starts_with.Given as goal

abbrev pub invariant-loop-place : goal.invariant-loop-place
invariant-loop-place l = take l.place l.all ≡ take l.place l.first
