use Rattle.std.proofs.Common.{◌≡◌}
use Rattle.std.specs.Vec.Iter.{into_iter_items}
use Rattle.topology_form.specs.Prelude.{items_view}
use Rattle.topology_form.specs.Reading.{each}
use Rattle.topology_form.proofs.Each.{after}
use Rattle.topology_form.proofs.forms.each.Given as goal

abbrev pub invariant-loop-item : goal.invariant-loop-item
invariant-loop-item g l = record {
  can_go_on : (goal.iterator-loop-item g).can_next l.item-iterator;
  will_end : (goal.iterator-loop-item g).is_finite l.item-iterator;
  read : after l.read (each (g.F.Form.form l.form) l.name (items_view (into_iter_items l.item-iterator))) ≡ each (g.F.Form.form l.form) l.name (items_view l.fn.items.items);
}
