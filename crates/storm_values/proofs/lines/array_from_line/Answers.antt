use Rattle.std.proofs.Common.{◌≡◌, Some, None, rules}
use Rattle.serde_json.specs.Find.{as_array}
use Rattle.serde_json.specs.View.{view}
use Rattle.serde_json.specs.Errors.{IsMemory}
use Rattle.serde_json.specs.declared.value.Value.{the_lemmas}
use Rattle.serde_json.proofs.Views.{view-Array}
use Rattle.storm_values.specs.Json.{json_of}
use Rattle.storm_values.proofs.LineLemmas.{json_of-Some, json_of-None}
use Rattle.storm_values.proofs.lines.array_from_line.Goals as goal

pub returns-in-Array-clause-good : goal.returns-in-Array-clause-good
returns-in-Array-clause-good c =
    let spelled : json_of c.args.line.now ≡ Some (view c.in-Ok.json) = json_of-Some c.args.line.now (view c.in-Ok.json) c.in-Ok.ensures.ok.0 c.in-Ok.ensures.ok.1 in
    rw (spelled, c.in-Array.is, view-Array c.in-Array.items)

pub returns-in_default : goal.returns-in_default
returns-in_default c =
    let spelled : json_of c.args.line.now ≡ Some (view c.in-Ok.json) = json_of-Some c.args.line.now (view c.in-Ok.json) c.in-Ok.ensures.ok.0 c.in-Ok.ensures.ok.1 in
    let other : as_array (view c.in-Ok.json) ≡ None = search (rules, the_lemmas) in
    record { good = tt; fault = λ _. rw (spelled, other) }

pub returns-in-Err-2-clause-fault : goal.returns-in-Err-2-clause-fault
returns-in-Err-2-clause-fault c =
    let other = λ (memory : IsMemory c.in-Err-2.field-0). absurd (search rules) in
    let spelled : json_of c.args.line.now ≡ None = json_of-None c.args.line.now (c.in-Err-2.ensures.err other) in
    λ _. rw spelled
