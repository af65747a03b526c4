use Rattle.std.proofs.Common.{ap, sym, ◌∙◌, refl, is_some, eqb-true, eq-eqb}
use Rattle.cell_format.specs.Layout.{number_bytes}
use Rattle.cell_format.proofs.ReadLemmas.{are_bytes, some_bytes, none_bytes, none_read}
use Rattle.cell_format.proofs.codec.has_number.Goals as goal

pub returns-in-Some : goal.returns-in-Some
returns-in-Some c = (
  λ _. some_bytes c.args.bytes.now c.args.number c.requires.length (are_bytes c.args.bytes.now c.type_inv.bytes) (ap is_some c.in-Some.is) c.requires.read,
  λ _. refl,
)

pub returns-in-None : goal.returns-in-None
returns-in-None c = (
  λ zero_is.
      none_bytes c.args.bytes.now c.requires.length (are_bytes c.args.bytes.now c.type_inv.bytes) (sym c.read_number.ensures ∙ eqb-true c.read_number.result 0 zero_is)
      ∙ ap number_bytes (sym c.in-None.is),
  λ is. eq-eqb c.read_number.result 0 (c.read_number.ensures ∙ none_read c.args.bytes.now (is ∙ ap number_bytes c.in-None.is)),
)
