-- What a message makes of a root's entry.
use Rattle.std.proofs.Common.{◌≡◌, Bool, Option, Some, List, ap, ◌∙◌}
use Rattle.storm_values.specs.declared.value.Root.{Root}
use Rattle.rotating_ledger.specs.Held.{Held, value_of, settled}
use Rattle.rotating_ledger.specs.Told.{merged, told, tells, state_with, met}
use Rattle.rotating_ledger.specs.declared.state.AckState.{AckState}

met_by : (root : Root) (message : AckState) (held : List (Held AckState)) (was : Option AckState) → value_of root held ≡ was
    → met root message held ≡ settled root was (state_with was message) held (tells (told (state_with was message)))
met_by root message held was is = ap (λ o. settled root o (state_with o message) held (tells (told (state_with o message)))) is

pub met-present : (root : Root) (message state : AckState) (held : List (Held AckState)) (b : Bool) → value_of root held ≡ Some state
    → tells (told (merged state message)) ≡ b → met root message held ≡ settled root (Some state) (merged state message) held b
met-present root message state held b is tells_is =
    met_by root message held (Some state) is ∙ ap (settled root (Some state) (merged state message) held) tells_is
