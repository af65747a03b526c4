-- What a replay does with its third file: it reads and refuses the schedule, after the other two.
use Rattle.std.specs.Prelude.{◌≡◌, ◌⊎◌, ℕ, List, Some, None}
use Rattle.event_worlds.specs.storm_values.declared.value.Value.{Value}
use Rattle.schedule_reader.specs.declared.event.Event.{Event}
use Rattle.schedule_reader.specs.declared.fault.ScheduleFault.{ScheduleFault}
use Rattle.schedule_reader.specs.Schedules.{events_of, schedule_fault}
use Rattle.event_worlds.specs.topology_plan.Topology.{Topology}
use Rattle.storm_answers.specs.declared.status.Status.{Status}
use Rattle.storm_answers.specs.declared.status.Status.TheVariants as status
use Rattle.storm_answers.specs.Files.{AreAccepted, FilesCall, FilesCome, IsNotRead, TellsInput, TellsPlan}
use Rattle.storm_answers.specs.Outside.{AreBytesOf, Fetched, ShelfUse}
use Rattle.storm_answers.specs.Texts.{schedule_line, schedule_not_read}

-- ---- what was read

-- the schedule over a plan was read and accepted, and has these events
pub record AreEvents (holds : List ℕ → List ℕ → Type 0) (plan : Topology) (name : List ℕ)
    (events : List Event) : Type 0 where
  pub bytes : List ℕ
  pub were_read : AreBytesOf holds name bytes
  pub is_accepted : schedule_fault bytes plan ≡ None
  pub are : events ≡ events_of bytes

-- all three files were read and accepted
pub record AreAllAccepted (holds : List ℕ → List ℕ → Type 0) (topology input schedule : List ℕ)
    (plan : Topology) (records : List (List Value)) (events : List Event) : Type 0 where
  pub files : AreAccepted holds topology input plan records
  pub schedule_file : AreEvents holds plan schedule events

-- ---- what was refused

-- the line that refuses the schedule over a plan
pub record IsScheduleLine (holds : List ℕ → List ℕ → Type 0) (plan : Topology)
    (name text : List ℕ) : Type 0 where
  pub bytes : List ℕ
  pub were_read : AreBytesOf holds name bytes
  pub fault : ScheduleFault
  pub is_refused : schedule_fault bytes plan ≡ Some fault
  pub printed : text ≡ schedule_line fault

-- The other two files were accepted, and the schedule comes to this.
pub record IsOfSchedule (holds : List ℕ → List ℕ → Type 0) (topology input : List ℕ)
    (Comes : Topology → Type 0) : Type 0 where
  pub plan : Topology
  pub records : List (List Value)
  pub accepted : AreAccepted holds topology input plan records
  pub comes : Comes plan

-- What the three files come to where they are not all accepted.
abbrev pub AllFilesCome : ShelfUse → List ℕ → List ℕ → List ℕ → Status → List ℕ → Type 0
AllFilesCome shelf topology input schedule status.Memory text =
    FilesCome shelf topology input status.Memory text ⊎ Fetched 3 shelf
AllFilesCome shelf topology input schedule status.ReadFault text =
    FilesCome shelf topology input status.ReadFault text
    ⊎ (Fetched 3 shelf
    × IsOfSchedule shelf.holds topology input (λ plan. IsNotRead shelf schedule)
    × (text ≡ schedule_not_read))
AllFilesCome shelf topology input schedule status.Schedule text =
    Fetched 3 shelf
    × IsOfSchedule shelf.holds topology input
    (λ plan. IsScheduleLine shelf.holds plan schedule text)
AllFilesCome shelf topology input schedule ending text = FilesCome shelf topology input ending text

-- ---- what the told files call for

-- the shelf tells a schedule without a fault, and these are its events
pub record TellsEvents (holds : List ℕ → List ℕ → Type 0) (plan : Topology) (name : List ℕ)
    (events : List Event) : Type 0 where
  pub bytes : List ℕ
  pub told : holds name bytes
  pub is_accepted : schedule_fault bytes plan ≡ None
  pub are : events ≡ events_of bytes

-- the shelf tells a schedule with a fault
pub record TellsScheduleFault (holds : List ℕ → List ℕ → Type 0) (plan : Topology)
    (name : List ℕ) : Type 0 where
  pub bytes : List ℕ
  pub told : holds name bytes
  pub fault : ScheduleFault
  pub is_refused : schedule_fault bytes plan ≡ Some fault

-- Which status the told files call for. That of `Done` stands for a replay.
abbrev pub AllFilesCall : (List ℕ → List ℕ → Type 0) → List ℕ → List ℕ → List ℕ → Status → Type 0
AllFilesCall holds topology input schedule status.Done =
    (plan : Topology) × TellsPlan holds topology plan × TellsInput holds plan input
    × ((events : List Event) × TellsEvents holds plan schedule events)
AllFilesCall holds topology input schedule status.Schedule =
    (plan : Topology) × TellsPlan holds topology plan × TellsInput holds plan input
    × TellsScheduleFault holds plan schedule
AllFilesCall holds topology input schedule called = FilesCall holds topology input called
