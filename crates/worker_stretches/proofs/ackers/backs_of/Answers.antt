use Rattle.std.proofs.Common.{rules, ◌≡◌, ◌∷◌, ◌++◌, [], subst, sym}
use Rattle.worker_stretches.proofs.Offices.{Back, Closing, closed, closing-more, closing-none}
use Rattle.worker_stretches.proofs.Zipping.{Zipped}
use Rattle.worker_stretches.proofs.ackers.backs_of.Goals as goal

pub loop-desk-init : goal.loop-desk-init
loop-desk-init c =
    let is : c.from_vec-rest.result.items ≡ c.args.desks.items = search rules in
    let none : c.new-seats.result.items ≡ [] = search rules in
    subst (λ xs. Closing c.args.plan.now c.args.desks.items xs c.new-seats.result.items) (sym is)
    (subst (Closing c.args.plan.now c.args.desks.items c.args.desks.items) (sym none) (closing-none c.args.plan.now c.args.desks.items c.requires.desks c.requires.numbered))

pub loop-desk-preserved : goal.loop-desk-preserved
loop-desk-preserved c =
    let front : c.loop-desk.rest.items ≡ c.in-Some.desk ∷ c.pop_front.new.self.items = search rules in
    let back : c.push.new.self.items ≡ c.loop-desk.seats.items ++ c.back_of.result ∷ [] = search rules in
    subst (Closing c.args.plan.now c.args.desks.items c.pop_front.new.self.items) (sym back)
    (closing-more c.args.plan.now c.args.desks.items c.loop-desk.rest.items c.pop_front.new.self.items c.in-Some.desk c.loop-desk.seats.items c.back_of.result front c.loop-desk.invariant c.back_of.ensures.same c.back_of.ensures.silent)

pub returns-clause-same : goal.returns-clause-same
returns-clause-same c =
    let none : c.loop-desk.rest.items ≡ [] = search rules in
    closed c.args.plan.now c.args.desks.items c.loop-desk.seats.items (subst (λ xs. Zipped (Back c.args.plan.now) c.args.desks.items xs c.loop-desk.seats.items) none c.loop-desk.invariant.pairs)
