use Rattle.std.proofs.Common.{ℕ}
use Rattle.storm_stores.specs.MemoryMaker.{HasMade}
use Rattle.storm_test_kit.proofs.outside.stores.Given as goal

abbrev pub invariant-loop-held : goal.invariant-loop-held
invariant-loop-held l = (c p : ℕ) → HasMade l.stores c p → ⊥

abbrev pub invariant-loop-failing : goal.invariant-loop-failing
invariant-loop-failing l = (c p : ℕ) → HasMade l.stores c p → ⊥
