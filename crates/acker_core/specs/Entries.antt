-- The entries of an acker: the messages of each root since its entry began, what they come to, and
-- when an entry goes. After Storm's acker; that a fail goes before completion and that an entry
-- stays in the bucket of its first message is this project's own.
use Rattle.std.specs.Prelude.{◌≡◌, ℕ, ◌==◌, Bool, true, false, Option, None, Some, is_some, List, [], ◌∷◌, ◌++◌, fold}
use Rattle.std.specs.List.{AllByRecursion}
use Rattle.tree_model.specs.storm_values.declared.value.Root.{Root}
use Rattle.rotating_ledger.specs.Held.{Held, value_of, settled, rotated}
use Rattle.tree_model.specs.declared.messages.AckMsg.{AckMsg}
use Rattle.tree_model.specs.declared.messages.AckMsg.TheVariants as msg
use Rattle.tree_model.specs.Lists.{root_of, word}
use Rattle.acker_core.specs.declared.verdict.Verdict.{Verdict}
use Rattle.acker_core.specs.declared.verdict.Verdict.TheVariants.{Complete, Fails}

-- whether there is an init
abbrev pub has_init : List AckMsg → Bool
has_init [] = false
has_init (msg.Init m ∷ list) = true
has_init (msg.Done m ∷ list) = has_init list
has_init (msg.Failed m ∷ list) = has_init list

-- the path of the first failure, if there is one
abbrev pub first_failed : List AckMsg → Option (List ℕ)
first_failed [] = None
first_failed (msg.Init m ∷ list) = first_failed list
first_failed (msg.Done m ∷ list) = first_failed list
first_failed (msg.Failed m ∷ list) = Some m.path

abbrev pub tell_by : Root → List AckMsg → Bool → Option (List ℕ) → Bool → Option Verdict
tell_by root list false failed zero_word = None
tell_by root list true (Some path) zero_word = Some (Fails root path)
tell_by root list true None true = Some (Complete root list)
tell_by root list true None false = None

-- What the list of a root comes to: with the init and a failure it fails, at the first failed path;
-- with the init, no failure and the word 0 it is complete; else nothing is told.
abbrev pub tell : Root → List AckMsg → Option Verdict
tell root list = tell_by root list (has_init list) (first_failed list) (word list == 0)

-- ---- entries

-- an entry's list after one more message, where this was the list, if there was an entry
abbrev pub appended : Option (List AckMsg) → AckMsg → List AckMsg
appended None m = m ∷ []
appended (Some list) m = list ++ m ∷ []

-- the list of the message's root with the message
abbrev pub list_with : AckMsg → List (Held (List AckMsg)) → List AckMsg
list_with m entries = appended (value_of (root_of m) entries) m

-- what is told of a message's root after it
abbrev pub told_of : AckMsg → List (Held (List AckMsg)) → Option Verdict
told_of m entries = tell (root_of m) (list_with m entries)

-- the entries after a message: its root's has one more message, or begins with it, and is gone
-- where something is told
abbrev pub met : AckMsg → List (Held (List AckMsg)) → List (Held (List AckMsg))
met m entries =
    settled (root_of m) (value_of (root_of m) entries) (list_with m entries) entries
    (is_some (told_of m entries))

-- what an acker meets
pub data Met : Type 0 where
  message : (m : AckMsg) → Met
  tick : Met

abbrev pub after : ℕ → List (Held (List AckMsg)) → Met → List (Held (List AckMsg))
after buckets entries (message m) = met m entries
after buckets entries tick = rotated buckets entries

-- the entries after a trace
abbrev pub entries_of : ℕ → List Met → List (Held (List AckMsg))
entries_of buckets trace = fold (after buckets) [] trace

-- what every acker keeps: no entry tells anything
abbrev pub AreSilent : List (Held (List AckMsg)) → Type 0
AreSilent entries = AllByRecursion (λ (h : Held (List AckMsg)). tell h.root h.value ≡ None) entries
