use Rattle.std.proofs.Common.{◌≡◌, ℕ, ◌<◌, ◌+◌, length, replicate, None, ap, sym, subst, ◌∙◌, arith}
use Rattle.std.proofs.lemmas.List.{with_items_is}
use Rattle.topology_plan.specs.declared.parts.Origin.{Origin}
use Rattle.topology_plan.specs.declared.parts.Origin.TheVariants as origin
use Rattle.topology_graph.specs.Graph.{AreRight, IsKnown}
use Rattle.topology_graph.proofs.ValueLemmas.{nothing_right, known_on, all_known}
use Rattle.topology_graph.proofs.values.values_along.Goals as goal

pub loop-c-init : goal.loop-c-init
loop-c-init g c = record {
  right = nothing_right (g.R.Along.rule c.args.rule.now) c.args.graph.now c.in_ok-known.known.items (c.in_ok-known.ensures ∙ ap (λ n. replicate n None) c.len.ensures);
  found = λ k below. absurd (omega arith);
}

pub loop-c-preserved : goal.loop-c-preserved
loop-c-preserved g c =
    let found = c.in_ok-find.ensures in
    let whole : length c.find.new.known ≡ c.loop-c.known.len = found.right.count ∙ sym c.loop-c.invariant.right.count ∙ sym c.loop-c.known.ok.0 in
    let is = with_items_is c.loop-c.known c.find.new.known whole in
    let kept = subst (λ known. (other : Origin) → IsKnown known other → IsKnown c.find.new.known other) c.as_mut_slice.ensures.value found.kept in
    record {
      right = subst (AreRight (g.R.Along.rule c.args.rule.now) c.args.graph.now) (sym is) found.right;
      found =
          subst (λ known. (k : ℕ) → k < c.loop-c.c + 1 → IsKnown known (origin.Component k)) (sym is)
          (known_on c.loop-c.known.items c.find.new.known c.loop-c.c c.loop-c.invariant.found kept found.known);
    }

pub returns : goal.returns
returns g c =
    all_known (g.R.Along.rule c.args.rule.now) c.args.graph.now c.loop-c.known.items c.loop-c.invariant.right
    (λ k below. c.loop-c.invariant.found k (omega (arith, c.len-c-end.ensures)))
