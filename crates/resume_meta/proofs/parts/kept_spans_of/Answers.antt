use Rattle.std.proofs.Common.{◌≡◌, Some, true, bytes_eq, codes, ap, sym, ◌∙◌}
use Rattle.std.proofs.lemmas.Slice.Eq.{bytes_eq-Decides}
use Rattle.resume_meta.proofs.SpansRead.{none_is}
use Rattle.resume_meta.proofs.parts.kept_spans_of.Goals as goal

pub returns-then-eq-clause-only : goal.returns-then-eq-clause-only
returns-then-eq-clause-only c = λ spans fit e.
    let same : bytes_eq c.args.text.now c.as_slice.result.now ≡ true = sym c.if-eq.ensures in
    let is : c.args.text.now ≡ codes "none" = (bytes_eq-Decides c.args.text.now c.as_slice.result.now).0 same ∙ c.as_slice.ensures in
    ap Some (c.new.ensures ∙ none_is spans c.args.text.now fit e is)
