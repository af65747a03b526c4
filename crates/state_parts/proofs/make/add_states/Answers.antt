use Rattle.std.proofs.Common.{◌≡◌, ◌+◌, length, subst, sym, ap, ◌∙◌, List}
use Rattle.std.proofs.lemmas.List.{length-map, length_push}
use Rattle.state_parts.specs.PartPlans.{IsOneOf, PartPlan, plan_of, plans_of}
use Rattle.state_parts.proofs.Places.{below_more, indexed_step, not_below}
use Rattle.state_parts.proofs.make.add_states.Goals as goal

pub add_component-requires : goal.add_component-requires
add_component-requires g c = λ p one. not_below c.args.plan.now c.loop-number.number p (subst (λ (ps : List PartPlan). IsOneOf ps c.loop-number.number p) c.loop-number.invariant.plans one)

pub loop-number-preserved : goal.loop-number-preserved
loop-number-preserved g c =
    let counted : c.len.result ≡ length (plans_of c.loop-number.parts.items) = c.len.ensures ∙ c.loop-number.parts.ok.0 ∙ sym (length-map c.loop-number.parts.items (λ at. plan_of at)) in
    record {
      plans = below_more c.args.plan.now c.loop-number.number c.component.result.now (plans_of c.loop-number.parts.items) (plans_of c.add_component.new.parts.items) c.component.ensures.value c.in_ok-add_component.ensures.plans c.loop-number.invariant.plans;
      long = ap length c.in_ok-push.ensures.items ∙ length_push c.loop-number.firsts.items c.len.result ∙ ap (λ n. n + 1) c.loop-number.invariant.long;
      indexed = indexed_step c.loop-number.firsts.items c.push.new.self.items c.len.result c.loop-number.number c.component.result.now.tasks c.component.result.now.body (plans_of c.loop-number.parts.items) (plans_of c.add_component.new.parts.items)
          c.in_ok-push.ensures.items counted c.loop-number.invariant.long c.in_ok-add_component.ensures.plans c.loop-number.invariant.indexed;
      out = c.add_component.ensures.out c.args.stores.now c.loop-number.invariant.out;
      only_made = c.in_ok-add_component.ensures.only_made c.args.stores.now c.loop-number.invariant.only_made;
    }
