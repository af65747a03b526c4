use Rattle.std.proofs.Common.{◌≡◌, Some, None, rules, sym, ◌∙◌, ap}
use Rattle.std.specs.Prelude.{option_and_then}
use Rattle.std.proofs.lemmas.Result.{IfOk-weaker}
use Rattle.serde_json.specs.Find.{as_array}
use Rattle.serde_json.specs.View.{view}
use Rattle.serde_json.specs.Errors.{IsMemory}
use Rattle.serde_json.specs.declared.value.Value.{the_lemmas}
use Rattle.serde_json.proofs.Views.{view-Array}
use Rattle.storm_values.specs.Json.{json_of}
use Rattle.key_texts.specs.KeyTexts.{all_values, values_in}
use Rattle.key_texts.proofs.KeysRead.{json_of-Some, json_of-None}
use Rattle.key_texts.proofs.keys.values_from.Goals as goal

pub returns-in-Array-clause-values : goal.returns-in-Array-clause-values
unfolding values_in
returns-in-Array-clause-values c =
    let spelled : json_of c.args.text.now ≡ Some (view c.in-Ok.json) = json_of-Some c.args.text.now (view c.in-Ok.json) c.in-Ok.ensures.ok.0 c.in-Ok.ensures.ok.1 in
    let found = ap (λ found. option_and_then all_values (option_and_then as_array found)) (spelled ∙ ap Some (ap view c.in-Array.is ∙ view-Array c.in-Array.items)) in
    IfOk-weaker c.values_of_items.result _ _ (λ read is. is ∙ sym found) c.values_of_items.ensures.values

pub returns-in_default : goal.returns-in_default
unfolding values_in
returns-in_default c =
    let spelled : json_of c.args.text.now ≡ Some (view c.in-Ok.json) = json_of-Some c.args.text.now (view c.in-Ok.json) c.in-Ok.ensures.ok.0 c.in-Ok.ensures.ok.1 in
    let other : as_array (view c.in-Ok.json) ≡ None = search (rules, the_lemmas) in
    record { values = sym (ap (λ found. option_and_then all_values (option_and_then as_array found)) spelled ∙ ap (option_and_then all_values) other); each = tt }

pub returns-in-Err-2-clause-values : goal.returns-in-Err-2-clause-values
unfolding values_in
returns-in-Err-2-clause-values c =
    let other = λ (memory : IsMemory c.in-Err-2.field-0). absurd (search rules) in
    let spelled : json_of c.args.text.now ≡ None = json_of-None c.args.text.now (c.in-Err-2.ensures.err other) in
    sym (ap (λ found. option_and_then all_values (option_and_then as_array found)) spelled)
