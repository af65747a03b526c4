-- What values end as, where a `&mut` to one of them is returned.
use Rattle.std.specs.Prelude.{Option}
use Rattle.std.specs.Borrow.{LendsIf, Fml, RattleType, MutBor}
use Rattle.storm_values.specs.declared.value.Root.{Root}
use Rattle.rotating_ledger.specs.Held.{Rotation, with_value}
use Rattle.rotating_ledger.specs.contracts.rotating.Rotating.{the_row}

module _ (V : RattleType) (s : MutBor (Rotation V.Denot)) (root : Root) where
  -- once the borrow ends, the root has the last value written through it; at `None` all stays
  abbrev pub lends_value : Option (MutBor V.Denot) → Fml
  lends_value r =
      LendsIf (the_row V) V s r (λ value. record s.now { held = with_value root s.now.held value })
      s.now
