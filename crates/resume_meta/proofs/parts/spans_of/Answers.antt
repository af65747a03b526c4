use Rattle.std.proofs.Common.{◌≡◌, Some, option_map, ap, subst, ◌∙◌}
use Rattle.std.proofs.lemmas.Option.{none-some, same_Some}
use Rattle.report_grammar.specs.WellFormed.{IsSpan}
use Rattle.resume_meta.proofs.SpansRead.{AreLeft, IsNext, all_left, all_more, done_one, next_left}
use Rattle.resume_meta.proofs.parts.spans_of.Goals as goal

pub loop-rest-init : goal.loop-rest-init
loop-rest-init c = record {
  left = λ spans are e. rw c.new-spans.ensures (all_left spans c.args.text.now are e);
  fit = rw c.new-spans.ensures tt;
}

pub returns-in_default-span_of-clause-only : goal.returns-in_default-span_of-clause-only
returns-in_default-span_of-clause-only c = λ spans are e.
    let left : AreLeft spans c.loop-rest.spans (Some c.in-Some.left.now) =
    subst (AreLeft spans c.loop-rest.spans) (ap (option_map (λ s. s.now)) c.in-Some.is) (c.loop-rest.invariant.left spans are e) in
    let next : IsNext spans c.loop-rest.spans c.in-Some.left.now = next_left spans _ _ are.each left in
    absurd (none-some next.span (c.in_default-span_of.ensures.only next.span next.fits (c.halves.ensures.front ∙ next.front)))

pub loop-rest-preserved : goal.loop-rest-preserved
loop-rest-preserved c = record {
  left = λ spans are e.
      let left : AreLeft spans c.loop-rest.spans (Some c.in-Some.left.now) =
      subst (AreLeft spans c.loop-rest.spans) (ap (option_map (λ s. s.now)) c.in-Some.is) (c.loop-rest.invariant.left spans are e) in
      let next : IsNext spans c.loop-rest.spans c.in-Some.left.now = next_left spans _ _ are.each left in
      let same : c.in-Some-span_of.span ≡ next.span = same_Some _ _ (c.in-Some-span_of.ensures.only next.span next.fits (c.halves.ensures.front ∙ next.front)) in
      rw c.in_ok-push.ensures.ok (done_one spans c.loop-rest.spans c.in-Some.left.now c.in-Some-span_of.span _ next same c.halves.ensures.rest);
  fit = rw c.in_ok-push.ensures.ok (all_more IsSpan c.loop-rest.spans c.in-Some-span_of.span c.loop-rest.invariant.fit c.in-Some-span_of.ensures.fit);
}
