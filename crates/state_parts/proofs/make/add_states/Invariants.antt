use Rattle.std.proofs.Common.{◌≡◌, length}
use Rattle.state_parts.specs.Makers.{AreOut, OnlyMade}
use Rattle.state_parts.specs.PartPlans.{AreIndexed, parts_below, plans_of}
use Rattle.state_parts.proofs.make.add_states.Given as goal

abbrev pub invariant-loop-number : goal.invariant-loop-number
invariant-loop-number g l = record {
  plans : plans_of l.parts.items ≡ parts_below l.plan l.number;
  long : length l.firsts.items ≡ l.number;
  indexed : AreIndexed l.firsts.items 0 (plans_of l.parts.items);
  out : AreOut g.C.CellStore.tells g.C.CellStore.fault_count g.M.StoreMaker.holds g.M.StoreMaker.has_made g.M.StoreMaker.fault_count l.fn.stores l.stores l.parts.items;
  only_made : OnlyMade g.M.StoreMaker.has_made l.fn.stores l.stores l.parts.items;
}
