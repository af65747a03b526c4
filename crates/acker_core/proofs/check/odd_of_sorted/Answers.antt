use Rattle.std.proofs.Common.{rules, ◌≡◌, [], ◌∷◌, List, subst, arith}
use Rattle.std.proofs.lemmas.Grind.{common_steps}
use Rattle.std.specs.Vec.Iter.{into_iter_items}
use Rattle.tree_model.specs.tuple_tickets.declared.edge.Edge.{Edge}
use Rattle.acker_core.specs.Edges.{put_on}
use Rattle.acker_core.proofs.Stack.{Kept, kept-first, kept-more, kept-last}
use Rattle.acker_core.proofs.check.odd_of_sorted.Goals as goal

pub loop-edge-init : goal.loop-edge-init
loop-edge-init c = record { can_go_on = tt; will_end = tt; kept = rw (c.into_iter-edge-iterator.ensures.into_iter_gives.0, c.new-left.ensures.items) (kept-first c.args.edges.items c.requires) }

pub loop-edge-preserved : goal.loop-edge-preserved
loop-edge-preserved c =
    let head : into_iter_items c.loop-edge.edge-iterator ≡ c.in-Some.edge ∷ into_iter_items c.next.new.self = grind (arith, common_steps) in
    let now : c.put_edge.new.left.items ≡ put_on c.loop-edge.left.items c.in-Some.edge = search rules in record {
      can_go_on = tt;
      will_end = tt;
      kept = rw now (kept-more c.args.edges.items (into_iter_items c.next.new.self) c.loop-edge.left.items c.in-Some.edge (subst (λ (xs : List Edge). Kept c.args.edges.items xs c.loop-edge.left.items) head c.loop-edge.invariant.kept));
    }

pub returns : goal.returns
returns c =
    let none : into_iter_items c.loop-edge.edge-iterator ≡ [] = grind (arith, common_steps) in
    kept-last c.args.edges.items c.loop-edge.left.items (subst (λ (xs : List Edge). Kept c.args.edges.items xs c.loop-edge.left.items) none c.loop-edge.invariant.kept)
