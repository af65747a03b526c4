use Rattle.std.proofs.Common.{sym, arith}
use Rattle.std.proofs.lemmas.List.{length-map}
use Rattle.state_parts.specs.PartPlans.{plan_of, plans_of}
use Rattle.state_parts.proofs.Places.{found_there, not_placed, on_none, other_there, past_end}
use Rattle.state_parts.proofs.SplitLemmas.{plans_at}
use Rattle.state_parts.proofs.split.find_part.Goals as goal

pub returns-in_err-place-clause-none : goal.returns-in_err-place-clause-none
returns-in_err-place-clause-none g c =
    let long = length-map c.args.parts.now (λ at. plan_of at) in
    on_none c.from_residual.result (not_placed c.args.firsts.now (plans_of c.args.parts.now) c.requires c.args.component c.args.part c.in_err-place.ensures.none (omega arith))

pub returns-then-place-count-clause-none : goal.returns-then-place-count-clause-none
returns-then-place-count-clause-none g c =
    let long = length-map c.args.parts.now (λ at. plan_of at) in
    past_end c.args.firsts.now (plans_of c.args.parts.now) c.requires c.args.component c.args.part c.in_ok-place.place c.in_ok-place.ensures.some (omega arith)

pub returns-then-at-component-clause-none : goal.returns-then-at-component-clause-none
returns-then-at-component-clause-none g c = other_there c.args.firsts.now (plans_of c.args.parts.now) c.requires c.args.component c.args.part c.in_ok-place.place (plan_of c.index-parts-place.result) c.in_ok-place.ensures.some
    (plans_at c.args.parts.now c.in_ok-place.place c.index-parts-place.result c.if-place-count.false c.index-parts-place.is) (λ same. c.if-at-component.true (sym same.0))

pub returns-then-at-part-clause-none : goal.returns-then-at-part-clause-none
returns-then-at-part-clause-none g c = other_there c.args.firsts.now (plans_of c.args.parts.now) c.requires c.args.component c.args.part c.in_ok-place.place (plan_of c.index-parts-place.result) c.in_ok-place.ensures.some
    (plans_at c.args.parts.now c.in_ok-place.place c.index-parts-place.result c.if-place-count.false c.index-parts-place.is) (λ same. c.if-at-part.true (sym same.1))

pub returns-clause-found : goal.returns-clause-found
returns-clause-found g c = found_there c.args.firsts.now (plans_of c.args.parts.now) c.requires c.args.component c.args.part c.in_ok-place.place (plan_of c.index-parts-place.result)
    (plans_at c.args.parts.now c.in_ok-place.place c.index-parts-place.result c.if-place-count.false c.index-parts-place.is) c.if-at-component.false c.if-at-part.false
