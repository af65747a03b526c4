-- What every command on a topology and an input does before its own work: it reads and refuses
-- the two files, in order.
use Rattle.std.specs.Prelude.{◌≡◌, ◌⊎◌, ℕ, List, length, Some, None}
use Rattle.event_worlds.specs.storm_values.declared.value.Value.{Value}
use Rattle.event_worlds.specs.storm_values.declared.lines.InputFault.{InputFault}
use Rattle.event_worlds.specs.storm_values.Lines.{input_fault, records_of}
use Rattle.event_worlds.specs.topology_plan.Topology.{Topology}
use Rattle.topology_reader.specs.TopoFault.{TopoFault}
use Rattle.topology_reader.specs.FirstFault.{first_fault, IsFilePlan}
use Rattle.storm_answers.specs.declared.status.Status.{Status}
use Rattle.storm_answers.specs.declared.status.Status.TheVariants as status
use Rattle.storm_answers.specs.Outside.{ShelfUse, Fetched, ShelfFailed, AreBytesOf}
use Rattle.storm_answers.specs.Texts.{topology_line, input_line, topology_not_read, input_not_read}

-- ---- what was read

-- the topology file was read and accepted
pub record IsAccepted (holds : List ℕ → List ℕ → Type 0) (name : List ℕ)
    (plan : Topology) : Type 0 where
  pub bytes : List ℕ
  pub were_read : AreBytesOf holds name bytes
  pub is_plan : IsFilePlan bytes plan

-- the input of a plan was read and accepted, and has these records
pub record AreRecords (holds : List ℕ → List ℕ → Type 0) (plan : Topology) (name : List ℕ)
    (records : List (List Value)) : Type 0 where
  pub bytes : List ℕ
  pub were_read : AreBytesOf holds name bytes
  pub is_accepted : input_fault bytes (length plan.spout_fields) ≡ None
  pub are : records ≡ records_of bytes

-- both files were read and accepted: this is their plan, and these are their records
pub record AreAccepted (holds : List ℕ → List ℕ → Type 0) (topology input : List ℕ)
    (plan : Topology) (records : List (List Value)) : Type 0 where
  pub topology_file : IsAccepted holds topology plan
  pub input_file : AreRecords holds plan input records

-- ---- what was refused

-- the line that refuses the topology
pub record IsTopologyLine (holds : List ℕ → List ℕ → Type 0) (name text : List ℕ) : Type 0 where
  pub bytes : List ℕ
  pub were_read : AreBytesOf holds name bytes
  pub fault : TopoFault
  pub is_refused : first_fault bytes ≡ Some fault
  pub printed : text ≡ topology_line fault

-- the line that refuses the input of a plan
pub record IsInputLine (holds : List ℕ → List ℕ → Type 0) (plan : Topology)
    (name text : List ℕ) : Type 0 where
  pub bytes : List ℕ
  pub were_read : AreBytesOf holds name bytes
  pub fault : InputFault
  pub is_refused : input_fault bytes (length plan.spout_fields) ≡ Some fault
  pub printed : text ≡ input_line fault

-- The file of a name was not read: the shelf's count of faults rose, and it is no file
-- that a ready shelf holds.
pub record IsNotRead (shelf : ShelfUse) (name : List ℕ) : Type 0 where
  pub rose : ShelfFailed shelf
  pub never_ready : shelf.ready → (bytes : List ℕ) → shelf.holds name bytes → ⊥

-- the line of a file that was not read: the topology, or the input of an accepted topology
pub data IsReadFaultLine (shelf : ShelfUse) (topology input text : List ℕ) : Type 0 where
  of_topology : Fetched 1 shelf → IsNotRead shelf topology → text ≡ topology_not_read
      → IsReadFaultLine shelf topology input text
  of_input : Fetched 2 shelf → IsNotRead shelf input → (plan : Topology)
      → IsAccepted shelf.holds topology plan → text ≡ input_not_read
      → IsReadFaultLine shelf topology input text

-- What a topology and an input come to where they are not both accepted.
abbrev pub FilesCome : ShelfUse → List ℕ → List ℕ → Status → List ℕ → Type 0
FilesCome shelf topology input status.Memory text = Fetched 1 shelf ⊎ Fetched 2 shelf
FilesCome shelf topology input status.Topology text =
    Fetched 1 shelf × IsTopologyLine shelf.holds topology text
FilesCome shelf topology input status.Input text =
    Fetched 2 shelf
    × ((plan : Topology) × IsAccepted shelf.holds topology plan
    × IsInputLine shelf.holds plan input text)
FilesCome shelf topology input status.ReadFault text = IsReadFaultLine shelf topology input text
FilesCome shelf topology input _ text = ⊥

-- ---- what the told files call for

-- the shelf tells a topology without a fault, and this is its plan
pub record TellsPlan (holds : List ℕ → List ℕ → Type 0) (name : List ℕ)
    (plan : Topology) : Type 0 where
  pub bytes : List ℕ
  pub told : holds name bytes
  pub is_plan : IsFilePlan bytes plan

-- the shelf tells a topology with a fault
pub record TellsTopologyFault (holds : List ℕ → List ℕ → Type 0) (name : List ℕ) : Type 0 where
  pub bytes : List ℕ
  pub told : holds name bytes
  pub fault : TopoFault
  pub is_refused : first_fault bytes ≡ Some fault

-- the shelf tells an input without a fault
pub record TellsInput (holds : List ℕ → List ℕ → Type 0) (plan : Topology)
    (name : List ℕ) : Type 0 where
  pub bytes : List ℕ
  pub told : holds name bytes
  pub is_accepted : input_fault bytes (length plan.spout_fields) ≡ None

-- the shelf tells an input with a fault
pub record TellsInputFault (holds : List ℕ → List ℕ → Type 0) (plan : Topology)
    (name : List ℕ) : Type 0 where
  pub bytes : List ℕ
  pub told : holds name bytes
  pub fault : InputFault
  pub is_refused : input_fault bytes (length plan.spout_fields) ≡ Some fault

-- Which status the told topology and input call for. That of `Done` stands for a command
-- that does its own work.
abbrev pub FilesCall : (List ℕ → List ℕ → Type 0) → List ℕ → List ℕ → Status → Type 0
FilesCall holds topology input status.Done =
    (plan : Topology) × TellsPlan holds topology plan × TellsInput holds plan input
FilesCall holds topology input status.Topology = TellsTopologyFault holds topology
FilesCall holds topology input status.Input =
    (plan : Topology) × TellsPlan holds topology plan × TellsInputFault holds plan input
FilesCall holds topology input _ = ⊥
