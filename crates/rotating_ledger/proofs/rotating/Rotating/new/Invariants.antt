use Rattle.std.proofs.Common.{◌≡◌, []}
use Rattle.std.specs.Prelude.{vec_len}
use Rattle.rotating_ledger.specs.Slots.{held_of, AllFound}
use Rattle.rotating_ledger.proofs.rotating.Rotating.new.Given as goal

abbrev pub invariant-loop-count : goal.invariant-loop-count
invariant-loop-count g l = (vec_len l.made ≡ l._count) × (held_of l.made.items ≡ []) × AllFound l.made.items
