use Rattle.std.proofs.Common.{◌≡◌, option_map, ap, sym, ◌∙◌}
use Rattle.std.specs.Fmt.{decimal}
use Rattle.std.proofs.lemmas.Option.{none-some, same_Some}
use Rattle.resume_meta.proofs.SpansRead.{first_there, last_there, span_made}
use Rattle.resume_meta.proofs.parts.span_of.Goals as goal

pub returns-in_err-last-clause-only : goal.returns-in_err-last-clause-only
returns-in_err-last-clause-only c = λ span is e.
    absurd (none-some (decimal span.last) (ap (option_map (λ s. s.now)) (sym c.in_err-last.was) ∙ (c.halves.ensures.rest ∙ last_there span _ is e)))

pub returns-in_err-last-2-clause-only : goal.returns-in_err-last-2-clause-only
returns-in_err-last-2-clause-only c = λ span is e.
    let last : c.in_ok-last.field-0.now ≡ decimal span.last = same_Some _ _ (ap (option_map (λ s. s.now)) (sym c.in_ok-last.was) ∙ (c.halves.ensures.rest ∙ last_there span _ is e)) in
    absurd (none-some span.last (c.in_err-last-2.ensures span.last is.last last))

pub returns-in_err-first-clause-only : goal.returns-in_err-first-clause-only
returns-in_err-first-clause-only c = λ span is e.
    absurd (none-some span.first (c.in_err-first.ensures span.first is.first (c.halves.ensures.front ∙ first_there span _ is e)))

pub returns-clause-only : goal.returns-clause-only
returns-clause-only c = λ span is e.
    let last : c.in_ok-last.field-0.now ≡ decimal span.last = same_Some _ _ (ap (option_map (λ s. s.now)) (sym c.in_ok-last.was) ∙ (c.halves.ensures.rest ∙ last_there span _ is e)) in
    span_made span _ _
    (same_Some _ _ (c.in_ok-first.ensures span.first is.first (c.halves.ensures.front ∙ first_there span _ is e)))
    (same_Some _ _ (c.in_ok-last-2.ensures span.last is.last last))
