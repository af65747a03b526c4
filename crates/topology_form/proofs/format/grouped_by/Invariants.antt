use Rattle.std.proofs.Common.{◌≡◌, ◌++◌}
use Rattle.std.specs.Vec.Iter.{into_iter_items}
use Rattle.topology_form.specs.Format.{grouped_by}
use Rattle.topology_form.proofs.format.grouped_by.Given as goal

abbrev pub invariant-loop-from : goal.invariant-loop-from
invariant-loop-from l = record {
  can_go_on : (goal.iterator-loop-from).can_next l.from-iterator;
  will_end : (goal.iterator-loop-from).is_finite l.from-iterator;
  made : l.inputs ++ grouped_by l.key (into_iter_items l.from-iterator) ≡ grouped_by l.key l.fn.names;
}
