use Rattle.std.proofs.Common.{◌∙◌}
use Rattle.part_files.proofs.StoreLemmas.{kept_done, tells_before, tells_cut, tells_done}
use Rattle.part_files.proofs.store.PartStoreCellStore.put.Goals as goal

-- the put was appended
pub invariant_of-self-in-Ok : goal.invariant_of-self-in-Ok
invariant_of-self-in-Ok g c =
    λ bytes held whole. kept_done (g.L.Log.holds c.self.inside.log) (g.L.Log.holds c.append.new.self) c.args.key.now c.args.cell.now c.as_slice.result.now
    c.self.inside.cells c.set.new.self (λ i. (c.type_inv.key i).fits) (λ i. (c.type_inv.cell i).fits) (c.as_slice.ensures.value ∙ c.in_ok-piece.ensures)
    c.in-Ok.ensures.done c.append.ensures.told_before (g.met.L.Log.one_content c.append.new.self) (λ before is. c.self.invariant before is whole) c.in_ok-set.ensures.ok
    bytes held

pub returns-in-Ok-clause-done : goal.returns-in-Ok-clause-done
returns-in-Ok-clause-done g c =
    rw (← c.self.view_is) (tells_done (g.L.Log.holds c.self.inside.log) (g.L.Log.holds c.append.new.self) c.args.key.now c.args.cell.now c.as_slice.result.now
    (λ i. (c.type_inv.key i).fits) (λ i. (c.type_inv.cell i).fits) (c.as_slice.ensures.value ∙ c.in_ok-piece.ensures) c.in-Ok.ensures.done)

pub returns-in-Ok-clause-told_before : goal.returns-in-Ok-clause-told_before
returns-in-Ok-clause-told_before g c =
    rw (← c.self.view_is) (tells_before (g.L.Log.holds c.self.inside.log) (g.L.Log.holds c.append.new.self) c.append.ensures.told_before)

-- the append failed
pub returns-clause-perhaps_done : goal.returns-clause-perhaps_done
returns-clause-perhaps_done g c =
    rw (← c.self.view_is) (λ _. tells_cut (g.L.Log.holds c.self.inside.log) (g.L.Log.holds c.append.new.self) c.args.key.now c.args.cell.now c.as_slice.result.now
    (λ i. (c.type_inv.key i).fits) (λ i. (c.type_inv.cell i).fits) (c.as_slice.ensures.value ∙ c.in_ok-piece.ensures) c.in-Err.ensures.cut)

pub returns-clause-told_before : goal.returns-clause-told_before
returns-clause-told_before g c =
    rw (← c.self.view_is) (tells_before (g.L.Log.holds c.self.inside.log) (g.L.Log.holds c.append.new.self) c.append.ensures.told_before)
