use Rattle.std.proofs.Common.{ℕ}
use Rattle.storm_stores.specs.MemoryMaker.{HasMade}
use Rattle.parts_tests.proofs.migrations.set_old_cells.Given as goal

abbrev pub invariant-loop-component : goal.invariant-loop-component
invariant-loop-component l = record {
  none_made : (c p : ℕ) → HasMade l.stores c p → ⊥;
}
