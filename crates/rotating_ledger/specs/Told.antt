-- What the messages of a root come to. After Storm's acker; that a fail goes before
-- completion is this project's own.
use Rattle.std.specs.Prelude.{ℕ, ◌==◌, ◌||◌, Bool, true, false, if◌then◌else◌, bit_xor, Option, None, Some, List, refl}
use Rattle.std.specs.Coded.{Coded, code_by, coded×, coded_ℕ, coded_bool}
use Rattle.storm_values.specs.declared.value.Root.{Root}
use Rattle.rotating_ledger.specs.Held.{Held, value_of, settled}
use Rattle.rotating_ledger.specs.declared.state.AckState.{AckState}
use Rattle.rotating_ledger.specs.declared.state.Told.{Told}
use Rattle.rotating_ledger.specs.declared.state.Told.TheVariants.{Nothing, Complete, Fails}

-- a state is stored as the tuple of its fields
abbrev pub state_code : Coded AckState
state_code =
    code_by
    (ℕ × (Bool × Bool))
    (coded× coded_ℕ (coded× coded_bool coded_bool))
    (λ s. (s.word, (s.init, s.failed)))
    (λ p. record { word = p.0; init = p.1.0; failed = p.1.1 })
    (λ _. refl)

-- ---- messages, each as the state that it alone makes

abbrev pub init_of : ℕ → AckState
init_of word = record { word = word; init = true; failed = false }

abbrev pub ack_of : ℕ → AckState
ack_of word = record { word = word; init = false; failed = false }

abbrev pub fail_note : AckState
fail_note = record { word = 0; init = false; failed = true }

-- a state and one more message: the words XOR, and what came has come
abbrev pub merged : AckState → AckState → AckState
merged state message = record {
  word = bit_xor state.word message.word;
  init = state.init || message.init;
  failed = state.failed || message.failed;
}

-- nothing without the init; with it a fail before all else, and complete exactly where the word is
-- 0
abbrev pub told : AckState → Told
told state =
    if state.init
    then (if state.failed then Fails else (if state.word == 0 then Complete else Nothing))
    else Nothing

abbrev pub tells : Told → Bool
tells Nothing = false
tells Complete = true
tells Fails = true

-- ---- entries

-- the state of a root after one more message, where this was its state, if it had an entry
abbrev pub state_with : Option AckState → AckState → AckState
state_with None message = message
state_with (Some state) message = merged state message

-- what is told of a root after a message
abbrev pub told_of : Root → AckState → List (Held AckState) → Told
told_of root message entries = told (state_with (value_of root entries) message)

-- the entries after a message: the root's changes, or begins, and is gone where something is told
abbrev pub met : Root → AckState → List (Held AckState) → List (Held AckState)
met root message entries =
    settled root (value_of root entries) (state_with (value_of root entries) message) entries
    (tells (told_of root message entries))
