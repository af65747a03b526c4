-- What was read of a file.
use Rattle.std.specs.Prelude.{◌≡◌, ℕ, List, take}
use Rattle.storm_answers.specs.declared.status.Status.{Status}
use Rattle.storm_answers.specs.declared.status.Status.TheVariants as status
use Rattle.storm_answers.specs.Files.{IsNotRead, IsTopologyLine, IsInputLine}
use Rattle.storm_answers.specs.Outside.{ShelfUse, Fetched, AreBytesOf}
use Rattle.storm_answers.specs.Schedules.{IsScheduleLine}
use Rattle.storm_answers.specs.Texts.{topology_not_read, input_not_read, schedule_not_read}
use Rattle.event_worlds.specs.topology_plan.Topology.{Topology}

-- at most so many bytes of the file of that name were read
pub record WasRead (holds : List ℕ → List ℕ → Type 0) (name : List ℕ) (most : ℕ)
    (front : List ℕ) : Type 0 where
  pub bytes : List ℕ
  pub are_of : AreBytesOf holds name bytes
  pub is_front : front ≡ take most bytes

-- what a file comes to that was not read, by its line
abbrev pub NotReadComes : ShelfUse → List ℕ → List ℕ → Status → List ℕ → Type 0
NotReadComes shelf name line status.Memory text = Unit {0}
NotReadComes shelf name line status.ReadFault text = IsNotRead shelf name × (text ≡ line)
NotReadComes shelf name line _ text = ⊥

-- what a topology alone comes to where it is not accepted.
abbrev pub TopologyComes : ShelfUse → List ℕ → Status → List ℕ → Type 0
TopologyComes shelf topology status.Memory text = Fetched 1 shelf
TopologyComes shelf topology status.Topology text =
    Fetched 1 shelf × IsTopologyLine shelf.holds topology text
TopologyComes shelf topology status.ReadFault text =
    Fetched 1 shelf × IsNotRead shelf topology × (text ≡ topology_not_read)
TopologyComes shelf topology _ text = ⊥

-- what the input of a plan comes to where it is not accepted
abbrev pub InputComes : ShelfUse → Topology → List ℕ → Status → List ℕ → Type 0
InputComes shelf plan input status.Memory text = Unit {0}
InputComes shelf plan input status.Input text = IsInputLine shelf.holds plan input text
InputComes shelf plan input status.ReadFault text = IsNotRead shelf input × (text ≡ input_not_read)
InputComes shelf plan input _ text = ⊥

-- what the schedule over a plan comes to where it is not accepted
abbrev pub ScheduleComes : ShelfUse → Topology → List ℕ → Status → List ℕ → Type 0
ScheduleComes shelf plan schedule status.Memory text = Unit {0}
ScheduleComes shelf plan schedule status.Schedule text =
    IsScheduleLine shelf.holds plan schedule text
ScheduleComes shelf plan schedule status.ReadFault text =
    IsNotRead shelf schedule × (text ≡ schedule_not_read)
ScheduleComes shelf plan schedule _ text = ⊥
