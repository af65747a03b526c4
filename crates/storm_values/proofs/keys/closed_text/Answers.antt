use Rattle.std.proofs.Common.{◌≡◌, ap, ◌∙◌}
use Rattle.std.specs.String.{string_bytes}
use Rattle.storm_values.proofs.KeyLemmas.{print-key}
use Rattle.storm_values.proofs.keys.closed_text.Goals as goal

pub returns : goal.returns
returns c = λ key is.
    let read : string_bytes c.in-Ok.text ≡ c.into_inner.result.items = ap (λ v. v.items) c.in-Ok.ensures.ok in
    let closed = c.in_ok-end_array.ensures in
    read ∙ c.into_inner.ensures.items ∙ rw (closed.room.0, c.requires, closed.ok, is) (print-key key)
