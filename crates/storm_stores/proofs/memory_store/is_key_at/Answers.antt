use Rattle.std.proofs.Common.{◌≡◌, Some, sym, ap, ◌∙◌}
use Rattle.std.proofs.lemmas.Slice.Eq.{bytes_eq-Decides}
use Rattle.storm_stores.proofs.memory_store.is_key_at.Goals as goal

pub returns-in-Some : goal.returns-in-Some
returns-in-Some c = λ is.
    let same : c.as_slice.result.now ≡ c.args.key.now = (bytes_eq-Decides c.as_slice.result.now c.args.key.now).0 (sym c.eq.ensures ∙ is) in
    (c.in-Some.field-0-1.now, sym c.in-Some.ensures.entry ∙ ap (λ key. Some (key, c.in-Some.field-0-1.now)) (sym c.as_slice.ensures ∙ same))
