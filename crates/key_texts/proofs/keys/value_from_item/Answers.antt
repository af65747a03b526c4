use Rattle.std.proofs.Common.{IsUtf8, sym, subst}
use Rattle.std.proofs.lemmas.Str.{IsUtf8-string_bytes}
use Rattle.key_texts.proofs.keys.value_from_item.Goals as goal

pub returns-in-String-clause-each : goal.returns-in-String-clause-each
returns-in-String-clause-each c =
    subst IsUtf8 (sym c.from_string.ensures) (IsUtf8-string_bytes c.in-String.text)
