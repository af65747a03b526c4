use Rattle.std.specs.Vec.Iter.{into_iter_items}
use Rattle.state_parts.specs.Makers.{AreBack, AreMade}
use Rattle.state_parts.specs.PartPlans.{AreApart, plans_of}
use Rattle.state_parts.proofs.give.give_all.Given as goal

abbrev pub invariant-loop-entry : goal.invariant-loop-entry
invariant-loop-entry g l = record {
  can_go_on : (goal.iterator-loop-entry g).can_next l.entry-iterator;
  will_end : (goal.iterator-loop-entry g).is_finite l.entry-iterator;
  made : AreMade g.M.StoreMaker.has_made l.stores (plans_of (into_iter_items l.entry-iterator));
  apart : AreApart (plans_of (into_iter_items l.entry-iterator));
  back : (end : g.row.M.Denot) → AreBack g.C.CellStore.tells g.C.CellStore.fault_count g.M.StoreMaker.holds g.M.StoreMaker.has_made g.M.StoreMaker.fault_count l.stores end (into_iter_items l.entry-iterator)
      → AreBack g.C.CellStore.tells g.C.CellStore.fault_count g.M.StoreMaker.holds g.M.StoreMaker.has_made g.M.StoreMaker.fault_count l.fn.stores end l.fn.parts.items;
}
