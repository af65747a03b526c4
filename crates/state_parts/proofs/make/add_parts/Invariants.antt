use Rattle.std.proofs.Common.{◌≡◌, ◌++◌, map}
use Rattle.std.specs.List.{range_with_len}
use Rattle.state_parts.specs.Makers.{AreOut, OnlyMade}
use Rattle.state_parts.specs.PartPlans.{part_by, plans_of}
use Rattle.state_parts.proofs.make.add_parts.Given as goal

abbrev pub invariant-loop-part : goal.invariant-loop-part
invariant-loop-part g l = record {
  plans : plans_of l.parts.items ≡ plans_of l.fn.parts.items ++ map (part_by l.component l.spec.kind l.spec.fold) (range_with_len 0 l.part);
  out : (start : g.row.M.Denot) → AreOut g.C.CellStore.tells g.C.CellStore.fault_count g.M.StoreMaker.holds g.M.StoreMaker.has_made g.M.StoreMaker.fault_count start l.fn.stores l.fn.parts.items
      → AreOut g.C.CellStore.tells g.C.CellStore.fault_count g.M.StoreMaker.holds g.M.StoreMaker.has_made g.M.StoreMaker.fault_count start l.stores l.parts.items;
  only_made : (start : g.row.M.Denot) → OnlyMade g.M.StoreMaker.has_made start l.fn.stores l.fn.parts.items → OnlyMade g.M.StoreMaker.has_made start l.stores l.parts.items;
}
