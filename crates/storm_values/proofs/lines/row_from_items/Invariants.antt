use Rattle.std.proofs.Common.{◌≡◌, ◌++◌, length}
use Rattle.std.specs.Vec.Iter.{into_iter_items}
use Rattle.serde_json.specs.View.{items_view}
use Rattle.storm_values.specs.Lines.{values_of, first_bad_item}
use Rattle.storm_values.proofs.lines.row_from_items.Given as goal

abbrev pub invariant-loop-item : goal.invariant-loop-item
invariant-loop-item l = record {
  can_go_on : (goal.iterator-loop-item).can_next l.item-iterator;
  will_end : (goal.iterator-loop-item).is_finite l.item-iterator;
  values : l.row ++ values_of (items_view (into_iter_items l.item-iterator)) ≡ values_of (items_view l.fn.items.items);
  bad : first_bad_item (length l.row) (items_view (into_iter_items l.item-iterator)) ≡ first_bad_item 0 (items_view l.fn.items.items);
}
