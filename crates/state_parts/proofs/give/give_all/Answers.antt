use Rattle.std.proofs.Common.{◌≡◌, [], ◌∷◌, arith}
use Rattle.std.proofs.lemmas.Grind.{common_steps}
use Rattle.std.specs.Vec.Iter.{into_iter_items}
use Rattle.state_parts.specs.PartPlans.{AreApart, plans_of}
use Rattle.state_parts.proofs.MakerLemmas.{back_more, back_none, made_first, made_rest}
use Rattle.state_parts.proofs.give.give_all.Goals as goal

pub give-requires : goal.give-requires
give-requires g c =
    let head : into_iter_items c.loop-entry.entry-iterator ≡ c.in-Some.entry ∷ into_iter_items c.next.new.self = grind (arith, common_steps) in
    made_first g.C.CellStore.tells g.C.CellStore.fault_count g.M.StoreMaker.holds g.M.StoreMaker.has_made g.M.StoreMaker.fault_count c.loop-entry.stores c.in-Some.entry (into_iter_items c.next.new.self) (rw head at c.loop-entry.invariant.made)

pub loop-entry-preserved : goal.loop-entry-preserved
loop-entry-preserved g c =
    let head : into_iter_items c.loop-entry.entry-iterator ≡ c.in-Some.entry ∷ into_iter_items c.next.new.self = grind (arith, common_steps) in
    let apart : AreApart (plans_of (c.in-Some.entry ∷ into_iter_items c.next.new.self)) = rw head at c.loop-entry.invariant.apart in
    record {
      can_go_on = tt;
      will_end = tt;
      made = made_rest g.C.CellStore.tells g.C.CellStore.fault_count g.M.StoreMaker.holds g.M.StoreMaker.has_made g.M.StoreMaker.fault_count c.loop-entry.stores c.give.new.self c.in-Some.entry (into_iter_items c.next.new.self) c.give.ensures.stays_made (rw head at c.loop-entry.invariant.made);
      apart = apart.1;
      back = back_more g.C.CellStore.tells g.C.CellStore.fault_count g.M.StoreMaker.holds g.M.StoreMaker.has_made g.M.StoreMaker.fault_count c.args.stores.now c.loop-entry.stores c.give.new.self c.args.parts.items c.in-Some.entry (into_iter_items c.next.new.self) apart
          (rw c.into_store.ensures at c.give.ensures.map) c.give.ensures.others c.give.ensures.stays_made c.give.ensures.made_before
          (rw c.into_store.ensures at c.give.ensures.count) c.give.ensures.never_falls (rw c.into_store.ensures at c.give.ensures.same_count) (rw head at c.loop-entry.invariant.back);
    }

pub returns : goal.returns
returns g c =
    let none : into_iter_items c.loop-entry.entry-iterator ≡ [] = grind (arith, common_steps) in
    (rw none at c.loop-entry.invariant.back) c.loop-entry.stores (back_none g.C.CellStore.tells g.C.CellStore.fault_count g.M.StoreMaker.holds g.M.StoreMaker.has_made g.M.StoreMaker.fault_count c.loop-entry.stores (g.met.M.StoreMaker.count_ends c.loop-entry.stores))
