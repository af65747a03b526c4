use Rattle.std.proofs.Common.{◌≡◌, ◌∷◌, IfSome, sym, ap, ◌∙◌}
use Rattle.std.proofs.lemmas.Result.{IfOk-weaker}
use Rattle.json.specs.Lex.{tokens}
use Rattle.json.specs.Token.{Token}
use Rattle.storm_values.specs.steps.Texts.{IsRead}
use Rattle.storm_values.proofs.TextsRead.{some_read}
use Rattle.storm_values.proofs.lines.texts_of_line.Goals as goal

pub returns : goal.returns
returns c =
    let line = c.args.line.now in
    let begin : tokens line ≡ Token.begin_array ∷ c.next.new.self =
    ap tokens (sym c.in-Ok.ensures.0) ∙ sym c.in_ok-reader.ensures.ok ∙ rw c.in-BeginArray.is at c.in-Some.ensures.value in
    IfOk-weaker c.texts_of_array.result _ (λ found. IfSome found (IsRead line)) (λ found. some_read line c.next.new.self c.in-Ok.ensures.1 begin found) c.texts_of_array.ensures
