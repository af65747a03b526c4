-- What traces come to for one root: its entry by itself, its messages, and where neither a rotation
-- nor a verdict disturbs its entry. After Storm's acker.
use Rattle.std.specs.Prelude.{◌≡◌, ℕ, ◌+◌, true, if◌then◌else◌, Option, None, Some, List, [], ◌∷◌, ◌++◌}
use Rattle.tree_model.specs.storm_values.declared.value.Root.{Root}
use Rattle.rotating_ledger.specs.Held.{Held, root_eq, value_of, aged, rotated}
use Rattle.tree_model.specs.declared.messages.AckMsg.{AckMsg}
use Rattle.tree_model.specs.Lists.{root_of}
use Rattle.acker_core.specs.Entries.{Met, message, tick, after, tell, told_of}
use Rattle.acker_core.specs.declared.verdict.Verdict.{Verdict}

-- ---- a root's entry by itself: the ticks since it began, and its list

-- it begins with a message, or has one more
abbrev pub with_message : AckMsg → Option (ℕ × List AckMsg) → ℕ × List AckMsg
with_message m None = (0, m ∷ [])
with_message m (Some entry) = (entry.0, entry.1 ++ m ∷ [])

-- it goes where something is told
abbrev pub kept_unless : Option Verdict → ℕ × List AckMsg → Option (ℕ × List AckMsg)
kept_unless None entry = Some entry
kept_unless (Some verdict) entry = None

abbrev pub unless_told : Root → ℕ × List AckMsg → Option (ℕ × List AckMsg)
unless_told root entry = kept_unless (tell root entry.1) entry

-- it changes with the messages of its root alone, and goes at the tick that has the number of
-- buckets since it began
abbrev pub entry_after : ℕ → Root → Option (ℕ × List AckMsg) → Met → Option (ℕ × List AckMsg)
entry_after buckets root entry (message m) =
    if root_eq root (root_of m) then unless_told root (with_message m entry) else entry
entry_after buckets root entry tick = aged buckets entry

-- ---- traces that do not disturb it

-- the messages of a root in a trace, in order
abbrev pub messages_of : Root → List Met → List AckMsg
messages_of root [] = []
messages_of root (message m ∷ trace) =
    if root_eq root (root_of m) then m ∷ messages_of root trace else messages_of root trace
messages_of root (tick ∷ trace) = messages_of root trace

-- a message of the root tells nothing, and a tick does not drop the root's entry
abbrev pub Spares : ℕ → Root → List (Held (List AckMsg)) → Met → Type 0
Spares buckets root entries (message m) =
    root_eq root (root_of m) ≡ true → told_of m entries ≡ None
Spares buckets root entries tick =
    value_of root (rotated buckets entries) ≡ value_of root entries

-- so does each step of a trace that begins with these entries
abbrev pub IsUndisturbed : ℕ → Root → List (Held (List AckMsg)) → List Met → Type 0
IsUndisturbed buckets root entries [] = Unit {0}
IsUndisturbed buckets root entries (met ∷ trace) =
    Spares buckets root entries met
    × IsUndisturbed buckets root (after buckets entries met) trace

-- ---- when there are none that disturb it

abbrev pub ticks_in : List Met → ℕ
ticks_in [] = 0
ticks_in (message m ∷ trace) = ticks_in trace
ticks_in (tick ∷ trace) = ticks_in trace + 1

-- the ticks in a trace since the first message of a root
abbrev pub ticks_since : Root → List Met → ℕ
ticks_since root [] = 0
ticks_since root (message m ∷ trace) =
    if root_eq root (root_of m) then ticks_in trace else ticks_since root trace
ticks_since root (tick ∷ trace) = ticks_since root trace

-- no beginning of a root's messages tells anything
abbrev pub AreUntold : Root → List AckMsg → Type 0
AreUntold root list = (front back : List AckMsg) → list ≡ front ++ back → tell root front ≡ None
