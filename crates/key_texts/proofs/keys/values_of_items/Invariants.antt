use Rattle.std.proofs.Common.{◌≡◌}
use Rattle.std.specs.Vec.Iter.{into_iter_items}
use Rattle.serde_json.specs.View.{items_view}
use Rattle.key_texts.specs.KeyTexts.{AreKeyValues, all_values}
use Rattle.key_texts.proofs.KeysRead.{after_values}
use Rattle.key_texts.proofs.keys.values_of_items.Given as goal

abbrev pub invariant-loop-item : goal.invariant-loop-item
invariant-loop-item l = record {
  can_go_on : (goal.iterator-loop-item).can_next l.item-iterator;
  will_end : (goal.iterator-loop-item).is_finite l.item-iterator;
  values : after_values l.row (all_values (items_view (into_iter_items l.item-iterator))) ≡ all_values (items_view l.fn.items.items);
  each : AreKeyValues l.row;
}
