use Rattle.std.proofs.Common.{rules, ◌≡◌, ◌≢◌, ◌≤◌, ◌<◌, ◌+◌, ◌-◌, ℕ, zero, suc, bit_xor, Bool, true, false, true≢false, List, [], ◌∷◌, ◌++◌, map, take, get_or, set, length, replicate, Option, Some, None, All, sym, refl, ap, subst, ◌∙◌, arith}
use Rattle.tree_model.specs.tuple_tickets.declared.edge.Edge.{Edge}
use Rattle.track_window.specs.Making.{node}
use Rattle.track_window.proofs.Makes.{Makes-one}
use Rattle.track_window.proofs.make.make.Goals as goal

pub returns : goal.returns
returns g c =
    let edge : Edge = record { path = c.in_ok-path.path; id = c.next-id.result } in
    let at : edge ≡ record { path = c.args.below.now.path.now ++ length c.args.edges.now ∷ []; id = c.next-id.result } =
    ap (λ (p : List ℕ). record { path = p; id = c.next-id.result }) (c.in_ok-path.ensures ∙ ap (λ (n : ℕ). c.args.below.now.path.now ++ n ∷ []) c.in_ok-next_number.ensures) in
    let edges : c.push.new.self ≡ c.args.edges.now ++ edge ∷ [] = c.in_ok-push.ensures.ok ∙ ap (λ (p : List ℕ). c.args.edges.now ++ record { path = p; id = c.next-id.result } ∷ []) c.in_ok-copy.ensures in
    Makes-one c.args.plan.now c.args.below.now.root c.args.below.now.path.now (node c.args.component c.args.row) edge _ c.next-id.result c.args.edges.now c.push.new.self c.args.jobs.now.items c.push-2.new.self.items at edges c.in_ok-push-2.ensures.items refl (c.requires.there, c.requires.row)
