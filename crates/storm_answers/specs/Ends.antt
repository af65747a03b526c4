-- How a command ends, whatever the command.
use Rattle.std.specs.Prelude.{◌≡◌, ◌⊎◌, ◌≤◌, ℕ, List, []}
use Rattle.storm_answers.specs.declared.status.Status.{Status}
use Rattle.storm_answers.specs.declared.status.Status.TheVariants as status
use Rattle.storm_answers.specs.Outside.{ShelfUse, ShelfFailed, SinkUse, SinkFailed, TookText, TookFront}
use Rattle.stored_runs.specs.Makers.{MakerUse}

-- the statuses that have a text: all but want of memory and a write fault
abbrev pub HasText : Status → Type 0
HasText status.Memory = ⊥
HasText status.WriteFault = ⊥
HasText _ = Unit {0}

-- The output was cut short: the count of the sink's faults rose, and the sink took a front of the
-- text of the status that a write fault took the place of.
pub record IsCut (Comes : Status → List ℕ → Type 0) (sink : SinkUse) : Type 0 where
  pub rose : SinkFailed sink
  pub replaced : Status
  pub has_text : HasText replaced
  pub text : List ℕ
  pub comes : Comes replaced text
  pub front : TookFront sink text

-- A command ended with a status, where `Comes` says what each status comes to, by its text. With
-- want of memory the text is empty.
pub record Ends (Comes : Status → List ℕ → Type 0) (sink : SinkUse) (ending : Status) : Type 0 where
  -- the sink took exactly the status's text
  pub whole : HasText ending → (text : List ℕ) × Comes ending text × TookText sink text
  -- a write fault
  pub cut : ending ≡ status.WriteFault → IsCut Comes sink
  -- want of memory: the sink took nothing
  pub memory : ending ≡ status.Memory
      → Comes status.Memory [] × (sink.taken_after ≡ sink.taken_before)

-- ---- which status is answered

-- What takes the place of an answer that the words and the files call for: a fault of reading or
-- writing with its count, or want of memory; or a fault of the keeper, whose count stands in what
-- the status comes to.
abbrev pub TakesThePlace : ShelfUse → SinkUse → Status → Type 0
TakesThePlace shelf sink status.Memory = Unit {0}
TakesThePlace shelf sink status.ReadFault = ShelfFailed shelf
TakesThePlace shelf sink status.WriteFault = SinkFailed sink
TakesThePlace shelf sink status.KeepFault = Unit {0}
TakesThePlace shelf sink _ = ⊥

-- the ends of the work that a command was called for, each of which has its own cause
abbrev pub IsEndOfWork : Status → Type 0
IsEndOfWork status.Done = Unit {0}
IsEndOfWork status.Exhausted = Unit {0}
IsEndOfWork status.Unfinished = Unit {0}
IsEndOfWork status.StoreFault = Unit {0}
IsEndOfWork status.BadCell = Unit {0}
IsEndOfWork _ = ⊥

-- a status answers what was called for: `Done` stands for a command that does its own work
abbrev pub AnswersCall : Status → Status → Type 0
AnswersCall status.Done ending = IsEndOfWork ending
AnswersCall called ending = ending ≡ called

-- A status that the words and the told files call for is answered, or something takes its place.
abbrev pub IsAnswered : (Status → Type 0) → ShelfUse → SinkUse → Status → Type 0
IsAnswered Calls shelf sink ending =
    (called : Status) → Calls called → AnswersCall called ending ⊎ TakesThePlace shelf sink ending

-- the work of a command was done, or memory was wanted
abbrev pub IsDoneOrShort : Status → Type 0
IsDoneOrShort ending = (ending ≡ status.Done) ⊎ (ending ≡ status.Memory)

-- What a command promises: what each status comes to, which status is called for, and when it has
-- to do all of its work.
pub record Promise : Type 1 where
  pub comes : Status → List ℕ → Type 0
  pub calls : Status → Type 0
  pub must_finish : Type 0

-- No count of files and output falls.
pub record FilesCounts (shelf : ShelfUse) (sink : SinkUse) : Type 0 where
  pub shelf_faults : shelf.faults_before ≤ shelf.faults_after
  pub sink_faults : sink.faults_before ≤ sink.faults_after

-- No count falls.
pub record Counts (shelf : ShelfUse) (sink : SinkUse) (stores : MakerUse) : Type 0 where
  pub shelf_faults : shelf.faults_before ≤ shelf.faults_after
  pub sink_faults : sink.faults_before ≤ sink.faults_after
  pub store_faults : stores.faults_before ≤ stores.faults_after
