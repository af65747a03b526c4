use Rattle.std.proofs.Common.{rules, ◌≡◌, ◌∷◌, ◌++◌, [], ◌∙◌, length, subst, sym, ap, arith}
use Rattle.worker_stretches.specs.Places.{IsAckerAt}
use Rattle.worker_stretches.proofs.Offices.{Opening, opened, opening-more, opening-none}
use Rattle.worker_stretches.proofs.Zipping.{one-more}
use Rattle.worker_stretches.proofs.ackers.offices_of.Goals as goal

pub loop-number-init : goal.loop-number-init
loop-number-init c =
    let is : c.from_vec-rest.result.items ≡ c.args.seats.items = search rules in
    let none : c.new-desks.result.items ≡ [] = search rules in record {
      opening = subst (λ xs. Opening c.args.plan.now c.args.seats.items xs c.new-desks.result.items) (sym is)
          (subst (Opening c.args.plan.now c.args.seats.items c.args.seats.items) (sym none) (opening-none c.args.plan.now c.args.seats.items c.requires.seats));
      count = ap length none;
      left = let e = ap length is in let m = c.requires.many in omega arith;
    }

pub loop-number-preserved : goal.loop-number-preserved
loop-number-preserved c =
    let inv = c.loop-number.invariant in
    let front : c.loop-number.rest.items ≡ c.unwrap-seat.result ∷ c.pop_front.new.self.items = search rules in
    let back : c.push.new.self.items ≡ c.loop-number.desks.items ++ c.office_of.result ∷ [] = search rules in record {
      opening = subst (Opening c.args.plan.now c.args.seats.items c.pop_front.new.self.items) (sym back)
          (opening-more c.args.plan.now c.args.seats.items c.loop-number.rest.items c.pop_front.new.self.items c.unwrap-seat.result c.loop-number.desks.items c.office_of.result front inv.opening
          (subst (λ n. IsAckerAt n c.unwrap-seat.result c.office_of.result) (sym inv.count) c.office_of.ensures) (let k = inv.count in let e = ap length front in let m = inv.left in omega arith));
      count = ap length back ∙ one-more c.loop-number.desks.items c.office_of.result ∙ (let k = inv.count in omega arith);
      left = let e = ap length front in let m = inv.left in omega arith;
    }

pub returns-clause-same : goal.returns-clause-same
returns-clause-same c = opened c.args.plan.now c.args.seats.items c.loop-number.rest.items c.loop-number.desks.items c.loop-number.invariant.opening (let l = c.loop-number.invariant.left in omega arith)
