-- The outside before and after a call, one record for each object.
use Rattle.std.specs.Prelude.{◌≡◌, ◌≤◌, ℕ, ◌+◌, ◌%◌, ◌^◌, List, ◌++◌, length, take, Option, Some, IfSome}
use Rattle.event_worlds.specs.storm_values.Counts.{Rose}
use Rattle.stored_runs.specs.Makers.{MakerUse}

-- ---- files

-- A shelf before and after a call. What it tells of its files no call changes.
pub record ShelfUse : Type 1 where
  -- it tells that the file of this name has these bytes
  pub holds : List ℕ → List ℕ → Type 0
  -- it told before the call that neither a fetch of a name that it holds nor a read fails
  pub ready : Type 0
  -- the number of fetches, modulo 2^64
  pub fetches_before : ℕ
  pub fetches_after : ℕ
  -- how often the outside has failed; the count ends at 2^64 - 1
  pub faults_before : ℕ
  pub faults_after : ℕ

-- the record of a shelf, from what its trait tells of it
abbrev pub shelf_use : {S : Type 0} → (S → List ℕ → List ℕ → Type 0) → (S → Type 0) → (S → ℕ)
    → (S → ℕ) → S → S → ShelfUse
shelf_use holds ready fetches faults old new = record {
  holds = holds old;
  ready = ready old;
  fetches_before = fetches old;
  fetches_after = fetches new;
  faults_before = faults old;
  faults_after = faults new;
}

-- so many files were fetched
abbrev pub Fetched : ℕ → ShelfUse → Type 0
Fetched times shelf = shelf.fetches_after ≡ (shelf.fetches_before + times) % 2 ^ 64

-- the outside failed on the side of the files
abbrev pub ShelfFailed : ShelfUse → Type 0
ShelfFailed shelf = Rose shelf.faults_before shelf.faults_after

-- these are the bytes of the file of that name, where the shelf tells them
abbrev pub AreBytesOf : (List ℕ → List ℕ → Type 0) → List ℕ → List ℕ → Type 0
AreBytesOf holds name bytes = (told : List ℕ) → holds name told → told ≡ bytes

-- ---- the output

-- A sink before and after a call: the bytes that it took, where it tells them, and how often
-- the outside has failed.
pub record SinkUse : Type 0 where
  pub taken_before : Option (List ℕ)
  pub taken_after : Option (List ℕ)
  pub faults_before : ℕ
  pub faults_after : ℕ

-- the record of a sink, from what its trait tells of it
abbrev pub sink_use : {S : Type 0} → (S → Option (List ℕ)) → (S → ℕ) → S → S → SinkUse
sink_use taken faults old new = record {
  taken_before = taken old;
  taken_after = taken new;
  faults_before = faults old;
  faults_after = faults new;
}

-- the outside failed on the side of the output
abbrev pub SinkFailed : SinkUse → Type 0
SinkFailed sink = Rose sink.faults_before sink.faults_after

-- the sink took the text and nothing else, where it tells what it took
abbrev pub TookText : SinkUse → List ℕ → Type 0
TookText sink text = IfSome sink.taken_before (λ taken. sink.taken_after ≡ Some (taken ++ text))

-- the sink took a front of the text and nothing else
abbrev pub TookFront : SinkUse → List ℕ → Type 0
TookFront sink text =
    IfSome sink.taken_before
    (λ taken. (k : ℕ) × (k ≤ length text) × (sink.taken_after ≡ Some (taken ++ take k text)))

-- ---- stores, ids and ticks

-- What a run works over: the maker of its stores, before and after a call, and the words that the
-- sources of ids told before it.
pub record RunUse : Type 1 where
  pub stores : MakerUse
  pub words : (ℕ → ℕ → ℕ) → Type 0

abbrev pub run_use : MakerUse → ((ℕ → ℕ → ℕ) → Type 0) → RunUse
run_use stores words = record { stores = stores; words = words }

-- A source of ticks before and after a call: how many were handed out, up to 2^64 - 1, and the
-- answers to come that it told before.
pub record TicksUse : Type 1 where
  pub before : ℕ
  pub after : ℕ
  pub to_come : List ℕ → Type 0

-- the record of a source of ticks, from what its trait tells of it
abbrev pub ticks_use : {T : Type 0} → (T → ℕ) → (T → List ℕ → Type 0) → T → T → TicksUse
ticks_use handed_out tells old new = record {
  before = handed_out old;
  after = handed_out new;
  to_come = tells old;
}
