use Rattle.std.proofs.Common.{◌≡◌, ◌∷◌, ◌++◌, [], Some, ap, sym, ◌∙◌}
use Rattle.json.specs.Token.{string}
use Rattle.json.specs.Reads.{token_of}
use Rattle.storm_values.specs.declared.value.Value.TheVariants.{Text}
use Rattle.storm_values.specs.steps.Texts.{texts_from}
use Rattle.storm_values.proofs.TextsRead.{after, texts_more, texts_end}
use Rattle.storm_values.proofs.lines.texts_of_array.Goals as goal

pub texts-preserved : goal.texts-preserved
texts-preserved c =
    let step : c.take_end_array.new.self ≡ string c.in-String.text.now ∷ c.next.new.self = rw c.in-String.is at c.in-Some.ensures.value in
    let more = texts_more c.args.reader.now c.texts.reader c.next.new.self c.texts.row c.in-String.text.now c.texts.invariant (sym c.texts-test.ensures.1 ∙ step) in
    let pushed : c.push.new.self ≡ c.texts.row ++ Text c.in-String.text.now ∷ [] = rw c.in_ok-from_str.ensures at c.in_ok-push.ensures.ok in
    rw pushed more

pub returns-in-None : goal.returns-in-None
returns-in-None c =
    texts_end c.args.reader.now c.texts.reader c.take_end_array.new.self c.texts.row c.texts.invariant c.texts-test.ensures c.in-None.ensures.value.0
