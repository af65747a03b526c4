use Rattle.std.proofs.Common.{◌≤◌, length, sym, ◌∙◌, arith}
use Rattle.std.proofs.lemmas.Result.{IfOk-weaker}
use Rattle.key_texts.specs.KeyTexts.{IsKey}
use Rattle.key_texts.proofs.KeysRead.{no_values, other_values, key_values}
use Rattle.key_texts.proofs.keys.is_key_text.Goals as goal
use Rattle.key_texts.proofs.keys.is_key_text.Goals.{then-count-eq0-via-then-count-eq0, then-count-eq0-via-else-count-eq0+then-count}

pub returns-in_default : goal.returns-in_default
returns-in_default c =
    no_values c.args.text.now (sym c.in_ok-key.ensures.values ∙ c.in_default.is)

pub returns-then-count-eq0 : goal.returns-then-count-eq0
returns-then-count-eq0 c =
    let found = sym c.in-Some.is ∙ c.in_ok-key.ensures.values in
    other_values c.args.text.now c.in-Some.key found (λ is. elim c.then-count-eq0.branch [
      | then-count-eq0-via-then-count-eq0 w ↦ omega (arith, is.some)
      | then-count-eq0-via-else-count-eq0+then-count w ↦ omega (arith, is.few)
    ])

pub returns : goal.returns
returns c =
    let found = sym c.in-Some.is ∙ c.in_ok-key.ensures.values in
    let each = rw c.in-Some.is at c.in_ok-key.ensures.each in
    let some : 1 ≤ length c.in-Some.key = omega arith in
    let key : IsKey c.in-Some.key = record { some = some; few = omega arith; each = each } in
    let values = c.as_slice.ensures in
    IfOk-weaker c.is_text_of.result _ _ (λ is written. key_values c.args.text.now c.in-Some.key is found key (rw values at written)) c.is_text_of.ensures
