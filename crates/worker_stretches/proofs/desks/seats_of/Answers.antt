use Rattle.std.proofs.Common.{rules, ◌≡◌, ◌∷◌, ◌++◌, [], subst, sym}
use Rattle.worker_stretches.proofs.Seating.{Back, Backing, backed, backing-more, backing-none}
use Rattle.worker_stretches.proofs.Zipping.{Zipped, none_left}
use Rattle.worker_stretches.proofs.desks.seats_of.Goals as goal

pub loop-desk-init : goal.loop-desk-init
loop-desk-init g c =
    let is : c.from_vec-rest.result.items ≡ c.args.desks.items = search rules in
    let none : c.new-seats.result.items ≡ [] = search rules in
    subst (λ xs. Backing c.args.plan.now c.args.desks.items xs c.new-seats.result.items) (sym is)
    (subst (Backing c.args.plan.now c.args.desks.items c.args.desks.items) (sym none) (backing-none c.args.plan.now c.args.desks.items c.requires.desks c.requires.numbered))

pub loop-desk-preserved : goal.loop-desk-preserved
loop-desk-preserved g c =
    let front : c.loop-desk.rest.items ≡ c.in-Some.desk ∷ c.pop_front.new.self.items = search rules in
    let back : c.push.new.self.items ≡ c.loop-desk.seats.items ++ c.in_ok-seat.seat ∷ [] = search rules in
    subst (Backing c.args.plan.now c.args.desks.items c.pop_front.new.self.items) (sym back)
    (backing-more c.args.plan.now c.args.desks.items c.loop-desk.rest.items c.pop_front.new.self.items c.in-Some.desk c.loop-desk.seats.items c.in_ok-seat.seat front c.loop-desk.invariant
    c.in_ok-seat.ensures.seat c.in_ok-seat.ensures.orderly c.in_ok-seat.ensures.same)

pub returns-clause-same : goal.returns-clause-same
returns-clause-same g c =
    let none : c.loop-desk.rest.items ≡ [] = none_left c.loop-desk.rest.items c.pop_front.new.self.items c.pop_front.result c.in_default.is c.pop_front.ensures.items c.pop_front.ensures.rest in
    backed c.args.plan.now c.args.desks.items c.loop-desk.seats.items (subst (λ xs. Zipped (Back c.args.plan.now) c.args.desks.items xs c.loop-desk.seats.items) none c.loop-desk.invariant.pairs)
