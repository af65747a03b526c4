-- Parts of a station, and the histories of single pieces of work.
use Rattle.std.specs.Prelude.{ℕ, List, [], ◌∷◌, Option, None, Some, map}
use Rattle.acker_core.specs.declared.verdict.Verdict.{Verdict}
use Rattle.acker_core.specs.Entries.{list_with, told_of}
use Rattle.tree_model.specs.counted_items.Weights.{weigh}
use Rattle.rotating_ledger.specs.Held.{Held, dropped}
use Rattle.tree_model.specs.storm_values.declared.value.Root.{Root}
use Rattle.tree_model.specs.declared.messages.AckMsg.{AckMsg}
use Rattle.tree_model.specs.Lists.{root_of}
use Rattle.tuple_account.specs.Histories.{Packet, of_verdict, Opening, Execution, Told, History, nothing}
use Rattle.tuple_account.specs.Moves.{Station}
use Rattle.tuple_account.specs.Places.{spans}

-- ---- parts

-- what a box or an outbox holds
abbrev pub holding : List Packet → Station
holding packets = record { waiting = λ f. weigh f packets; kept = λ g. 0; given = λ s j. 0 }

-- the messages of entries, each with the root of its entry
abbrev pub weigh_entries : (Root → AckMsg → ℕ) → List (Held (List AckMsg)) → ℕ
weigh_entries g entries = weigh (λ (e : Held (List AckMsg)). weigh (g e.root) e.value) entries

-- the entries of an acker
abbrev pub keeping : List (Held (List AckMsg)) → Station
keeping entries = record { waiting = λ f. 0; kept = λ g. weigh_entries g entries; given = λ s j. 0 }

-- a source that gave so many words
abbrev pub giving : ℕ → ℕ → Station
giving source count =
    record { waiting = λ f. 0; kept = λ g. 0; given = λ s j. spans source 0 count s j }

-- ---- what an acker tells

abbrev pub telling_by : Root → List AckMsg → Option Verdict → List Told
telling_by root list None = []
telling_by root list (Some verdict) = record { root = root; list = list; verdict = verdict } ∷ []

-- what is told after a message, with the list of the entry
abbrev pub telling : AckMsg → List (Held (List AckMsg)) → List Told
telling m entries = telling_by (root_of m) (list_with m entries) (told_of m entries)

abbrev pub verdicts_of : List Told → List Packet
verdicts_of told = map (λ (x : Told). of_verdict x.verdict) told

-- ---- histories of one piece of work

-- a source gives start words
abbrev pub starting : ℕ → ℕ → ℕ → History
starting source at count =
    record nothing { starts = record { source = source; at = at; count = count } ∷ [] }

-- a root is begun
abbrev pub opening : Opening → History
opening o = record nothing { begun = o ∷ [] }

-- a tuple is executed
abbrev pub executing : Execution → History
executing e = record nothing { runs = e ∷ [] }

-- an acker with these entries meets a message
abbrev pub meeting : ℕ → AckMsg → List (Held (List AckMsg)) → History
meeting acker m entries =
    record nothing
    { met = record { acker = acker; message = m } ∷ []; told = telling m entries }

-- a rotation drops entries
abbrev pub dropping : ℕ → List (Held (List AckMsg)) → History
dropping buckets entries = record nothing { dropped = dropped buckets entries }

-- the coordinator takes a verdict
abbrev pub hearing : Verdict → History
hearing v = record nothing { heard = v ∷ [] }
