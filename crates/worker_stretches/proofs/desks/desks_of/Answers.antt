use Rattle.std.proofs.Common.{rules, ◌≡◌, ◌∷◌, ◌++◌, [], ◌∙◌, length, subst, sym, ap, arith}
use Rattle.worker_stretches.specs.Places.{IsTaskAt}
use Rattle.worker_stretches.proofs.Seating.{Desking, desked, desking-more, desking-none}
use Rattle.worker_stretches.proofs.Zipping.{one-more}
use Rattle.worker_stretches.proofs.desks.desks_of.Goals as goal

pub loop-number-init : goal.loop-number-init
loop-number-init g c =
    let is : c.from_vec-rest.result.items ≡ c.args.seats.items = search rules in
    let none : c.new-desks.result.items ≡ [] = search rules in record {
      desking = subst (λ xs. Desking c.args.plan.now c.args.seats.items xs c.new-desks.result.items) (sym is)
          (subst (Desking c.args.plan.now c.args.seats.items c.args.seats.items) (sym none) (desking-none c.args.plan.now c.args.seats.items c.requires.seats c.requires.orderly));
      count = ap length none;
      left = let e = ap length is in let m = c.requires.many in omega arith;
    }

pub loop-number-preserved : goal.loop-number-preserved
loop-number-preserved g c =
    let inv = c.loop-number.invariant in
    let front : c.loop-number.rest.items ≡ c.unwrap-seat.result ∷ c.pop_front.new.self.items = search rules in
    let back : c.push.new.self.items ≡ c.loop-number.desks.items ++ c.in_ok-desk.desk ∷ [] = search rules in record {
      desking = subst (Desking c.args.plan.now c.args.seats.items c.pop_front.new.self.items) (sym back)
          (desking-more c.args.plan.now c.args.seats.items c.loop-number.rest.items c.pop_front.new.self.items c.unwrap-seat.result c.loop-number.desks.items c.in_ok-desk.desk front inv.desking c.in_ok-desk.ensures.desk
          (subst (λ n. IsTaskAt n c.unwrap-seat.result c.in_ok-desk.desk) (sym inv.count) c.in_ok-desk.ensures.same));
      count = ap length back ∙ one-more c.loop-number.desks.items c.in_ok-desk.desk ∙ (let k = inv.count in omega arith);
      left = let e = ap length front in let m = inv.left in omega arith;
    }

pub returns-clause-same : goal.returns-clause-same
returns-clause-same g c = desked c.args.plan.now c.args.seats.items c.loop-number.rest.items c.loop-number.desks.items c.loop-number.invariant.desking (let l = c.loop-number.invariant.left in omega arith)
