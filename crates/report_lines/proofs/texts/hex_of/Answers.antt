use Rattle.std.proofs.Common.{ap, ◌∙◌}
use Rattle.std.proofs.lemmas.Result.{IfOk-weaker}
use Rattle.hex.specs.Hex.{encode_lower}
use Rattle.report_grammar.proofs.Hex.{digits_of_bytes}
use Rattle.report_lines.proofs.texts.hex_of.Goals as goal

pub returns : goal.returns
returns c =
    IfOk-weaker c.encode.result _ _ (λ text is. is ∙ (ap encode_lower c.to_be_bytes.ensures ∙ digits_of_bytes c.args.id)) c.encode.ensures
