use Rattle.std.proofs.Common.{◌≡◌, ◌∷◌, ◌++◌, Less, rules, sym}
use Rattle.tree_model.specs.counted_items.Weights.{Same}
use Rattle.tree_model.specs.storm_values.Order.{path_cmp}
use Rattle.message_lists.specs.Packed.{done_lent}
use Rattle.acker_core.specs.Orders.{all_open, edge_of, last_path}
use Rattle.acker_core.proofs.Walks.{taken_is, went}
use Rattle.acker_core.proofs.follow.Walk.step.Goals as goal

pub returns : goal.returns
returns c =
    λ yes.
    let done = done_lent c.in-Some-done_at.done in
    let same : edge_of c.in-Some.edge ≡ done.consumed = search rules in
    let below : path_cmp (last_path c.args.self.now.last) done.consumed.path ≡ Less = search rules in
    let moved : Same (all_open c.args.self.now.pending.items) (edge_of c.in-Some.edge ∷ all_open c.take_edge.new.waiting.items) =
    taken_is c.in_ok-edge.field-0 c.in-Some.edge c.in-Some.slot (all_open c.args.self.now.pending.items) (all_open c.take_edge.new.waiting.items)
    c.in_ok-edge.ensures c.in-Some.is in
    let put : all_open c.add_open.new.waiting.items ≡ all_open c.take_edge.new.waiting.items ++ done.produced = search rules in
    record {
      place = c.in-Some-get.slot.now.place;
      done = done;
      there = search rules;
      added = search rules;
      above = below;
      is_last = search rules;
      moved = went (all_open c.args.self.now.pending.items) (all_open c.take_edge.new.waiting.items) (all_open c.add_open.new.waiting.items)
          done.produced (edge_of c.in-Some.edge) done.consumed moved put (sym same);
    }
