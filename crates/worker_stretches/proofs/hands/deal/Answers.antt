use Rattle.std.proofs.Common.{rules, sym, ◌≡◌, ◌++◌, ◌∷◌, subst, ◌∙◌}
use Rattle.std.specs.List.Sorted.{IsPermutation}
use Rattle.worker_stretches.specs.Hands.{items_in}
use Rattle.worker_stretches.proofs.Handing.{Turning, dealt-more, gives-many, turning-more, turning-none}
use Rattle.worker_stretches.proofs.hands.deal.Goals as goal

pub loop-item-preserved : goal.loop-item-preserved
loop-item-preserved g c =
    let inv = c.loop-item.invariant in
    let front : c.loop-item.rest.items ≡ c.in-Some.item ∷ c.pop_front.new.self.items = search rules in record {
      many = gives-many c.loop-item.hands.items c.give.new.hands.items c.loop-item.at c.in-Some.item c.in_ok-give.ensures ∙ inv.many;
      place = search rules;
      turning = turning-more c.args.first c.args.count c.args.items.items c.pop_front.new.self.items c.in-Some.item c.loop-item.hands.items c.give.new.hands.items c.loop-item.at c.next_to-at.result
          (subst (λ xs. Turning c.args.first c.args.count c.args.items.items xs c.loop-item.hands.items c.loop-item.at) front inv.turning) c.in_ok-give.ensures c.next_to-at.ensures;
      dealt = dealt-more c.args.items.items c.pop_front.new.self.items c.loop-item.hands.items c.give.new.hands.items c.loop-item.at c.in-Some.item
          (subst (λ xs. IsPermutation c.args.items.items (items_in c.loop-item.hands.items ++ xs)) front inv.dealt) c.in_ok-give.ensures;
    }

pub loop-item-init : goal.loop-item-init
loop-item-init g c =
    let is : c.from_vec-rest.result.items ≡ c.args.items.items = search rules in record {
      many = c.in_ok-hands.ensures.many;
      place = c.requires;
      turning = subst (λ xs. Turning c.args.first c.args.count c.args.items.items xs c.in_ok-hands.hands.items c.args.first) (sym is)
          (turning-none c.args.first c.args.count c.args.items.items c.in_ok-hands.hands.items c.requires c.in_ok-hands.ensures.empty);
      dealt = search rules;
    }
