-- What the two files come to, from what reading them gave.
use Rattle.std.proofs.Common.{◌≡◌, ◌≢◌, ℕ, ◌+◌, ◌%◌, ◌^◌, ◌≤◌, List, length, take, ◌++◌, codes, Option, Some, None, Result, Ok, Err, sym, ap, subst, ◌∙◌, inl, inr, arith, string_bytes}
use Rattle.std.proofs.Math.Nat.{mod-add-mod}
use Rattle.std.proofs.lemmas.List.{take_all}
use Rattle.std.specs.Prelude.{IfOk, IfSome}
use Rattle.event_worlds.specs.storm_values.declared.value.Value.{Value}
use Rattle.event_worlds.specs.storm_values.declared.lines.InputFault.{InputFault}
use Rattle.event_worlds.specs.storm_values.declared.lines.InputFault.TheVariants as input_fault_is
use Rattle.event_worlds.specs.storm_values.Lines.{input_fault, records_of}
use Rattle.event_worlds.proofs.storm_values.InputLemmas.{input_fault-take, records_of-take}
use Rattle.event_worlds.specs.storm_values.Counts.{Rose}
use Rattle.schedule_reader.specs.declared.event.Event.{Event}
use Rattle.schedule_reader.specs.declared.fault.ScheduleFault.{ScheduleFault}
use Rattle.schedule_reader.specs.declared.fault.ScheduleFault.TheVariants as schedule_fault_is
use Rattle.schedule_reader.specs.Schedules.{events_of, schedule_fault}
use Rattle.event_worlds.specs.topology_plan.Topology.{Topology}
use Rattle.topology_reader.specs.TopoFault.{TopoFault}
use Rattle.topology_reader.specs.TopoFault.TheVariants as topology_fault
use Rattle.topology_reader.specs.FirstFault.{first_fault, IsFilePlan}
use Rattle.topology_reader.proofs.FilePlans.{plan_of_front, IsRefusedAlike, refused_by_front}
use Rattle.storm_answers.specs.declared.status.Status.{Status}
use Rattle.storm_answers.specs.declared.status.Status.TheVariants as status
use Rattle.storm_answers.specs.declared.early_end.EarlyEnd.{EarlyEnd}
use Rattle.storm_answers.specs.declared.early_end.EarlyEnd.TheVariants.{Memory, Told}
use Rattle.storm_answers.specs.Ends.{HasText}
use Rattle.storm_answers.specs.Files.{IsAccepted, AreAccepted, AreRecords, IsTopologyLine, IsInputLine, IsNotRead, of_topology, of_input, FilesCome}
use Rattle.storm_answers.specs.Outside.{ShelfUse, AreBytesOf, Fetched}
use Rattle.storm_answers.specs.Schedules.{AllFilesCome, AreAllAccepted, AreEvents, IsScheduleLine}
use Rattle.storm_answers.specs.steps.Reading.{TopologyComes, WasRead, NotReadComes, InputComes, ScheduleComes}
use Rattle.storm_answers.specs.steps.Stops.{Stops, IfTold}
use Rattle.storm_answers.specs.Texts.{topology_line, input_line, schedule_line, topology_not_read, input_not_read, schedule_not_read}

-- ---- one file

-- what was read of a file that was fetched: the first of its bytes, if the shelf tells them
was_read : (holds : List ℕ → List ℕ → Type 0) (name : List ℕ) (most : ℕ) (rest : Option (List ℕ)) → ((bytes : List ℕ) → holds name bytes → rest ≡ Some bytes) → (front : List ℕ) → IfSome rest (λ left. front ≡ take most left) → length front ≤ most → WasRead holds name most front
was_read holds name most (Some left) begins front is few = record {
  bytes = left;
  are_of = λ told here. let same : Some left ≡ Some told = begins told here in cc;
  is_front = is;
}
was_read holds name most None begins front is few = record {
  bytes = front;
  are_of = λ told here. let none : Some told ≡ None = sym (begins told here) in cc;
  is_front = sym (take_all most front few);
}

pub all_read : {E : Type 0} (result : Result (List ℕ) E) (holds : List ℕ → List ℕ → Type 0) (name : List ℕ) (most : ℕ) (rest : Option (List ℕ)) → ((bytes : List ℕ) → holds name bytes → rest ≡ Some bytes) → IfOk result (λ front. IfSome rest (λ left. front ≡ take most left)) → IfOk result (λ front. length front ≤ most) → IfOk result (WasRead holds name most)
all_read (Ok front) holds name most rest begins is few = was_read holds name most rest begins front is few
all_read (Err fault) holds name most rest begins is few = tt

-- a topology whose first bytes have a plan was accepted
pub accepted_by_front : (holds : List ℕ → List ℕ → Type 0) (name front slice : List ℕ) (plan : Topology) → WasRead holds name 65537 front → slice ≡ front → IsFilePlan slice plan → IsAccepted holds name plan
accepted_by_front holds name front slice plan read sliced is_plan = record {
  bytes = read.bytes;
  were_read = read.are_of;
  is_plan = (plan_of_front read.bytes plan).0 (subst (λ f. IsFilePlan f plan) (sliced ∙ read.is_front) is_plan);
}

-- the line that refuses a topology
pub refused_line : (holds : List ℕ → List ℕ → Type 0) (name front slice : List ℕ) (fault : TopoFault) (text : List ℕ) → WasRead holds name 65537 front → slice ≡ front → first_fault slice ≡ Some fault → text ≡ topology_line fault → IsTopologyLine holds name text
refused_line holds name front slice fault text read sliced refused line =
    let alike : IsRefusedAlike read.bytes fault = refused_by_front read.bytes fault (subst (λ f. first_fault f ≡ Some fault) (sliced ∙ read.is_front) refused) in
    record {
      bytes = read.bytes;
      were_read = read.are_of;
      fault = alike.told;
      is_refused = alike.is_first;
      printed = line ∙ ap (λ told. codes "topology: " ++ told ++ codes "\n") alike.alike;
    }

-- the records of an input that was read and accepted
pub records_by_front : (holds : List ℕ → List ℕ → Type 0) (plan : Topology) (name front slice : List ℕ) (want : ℕ) (records : List (List Value)) → WasRead holds name 67108865 front → slice ≡ front → want ≡ length plan.spout_fields → (input_fault slice want ≡ None) × (records ≡ records_of slice) → AreRecords holds plan name records
records_by_front holds plan name front slice want records read sliced wants good =
    let same : input_fault read.bytes want ≡ None = sym (input_fault-take read.bytes want) ∙ (ap (λ f. input_fault f want) (sym (sliced ∙ read.is_front)) ∙ good.0) in
    record {
      bytes = read.bytes;
      were_read = read.are_of;
      is_accepted = subst (λ w. input_fault read.bytes w ≡ None) wants same;
      are = good.1 ∙ (ap records_of (sliced ∙ read.is_front) ∙ records_of-take read.bytes want same);
    }

-- the line that refuses an input
pub refused_input_line : (holds : List ℕ → List ℕ → Type 0) (plan : Topology) (name front slice : List ℕ) (want : ℕ) (fault : InputFault) (text : List ℕ) → WasRead holds name 67108865 front → slice ≡ front → want ≡ length plan.spout_fields → input_fault slice want ≡ Some fault → text ≡ input_line fault → IsInputLine holds plan name text
refused_input_line holds plan name front slice want fault text read sliced wants refused line =
    let same : input_fault read.bytes want ≡ Some fault = sym (input_fault-take read.bytes want) ∙ (ap (λ f. input_fault f want) (sym (sliced ∙ read.is_front)) ∙ refused) in
    record {
      bytes = read.bytes;
      were_read = read.are_of;
      fault = fault;
      is_refused = subst (λ w. input_fault read.bytes w ≡ Some fault) wants same;
      printed = line;
    }

-- a topology that was refused
pub topology_refused : (shelf : ShelfUse) (name front slice : List ℕ) (fault : TopoFault) (stop : EarlyEnd) → WasRead shelf.holds name 65537 front → slice ≡ front → (fault ≢ topology_fault.Memory → first_fault slice ≡ Some fault) → Fetched 1 shelf → IfTold stop (λ ending text. (fault ≢ topology_fault.Memory) × (ending ≡ status.Topology) × (text ≡ topology_line fault)) → Stops (TopologyComes shelf name) stop
topology_refused shelf name front slice fault Memory read sliced refused once told = once
topology_refused shelf name front slice fault (Told s line) read sliced refused once (tells, is, printed) =
    subst (λ t. HasText t × TopologyComes shelf name t (string_bytes line)) (sym is) (tt, (once, refused_line shelf.holds name front slice fault (string_bytes line) read sliced (refused tells) printed))

-- an input that was refused
pub input_refused : (shelf : ShelfUse) (plan : Topology) (name front slice : List ℕ) (want : ℕ) (fault : InputFault) (stop : EarlyEnd) → WasRead shelf.holds name 67108865 front → slice ≡ front → want ≡ length plan.spout_fields → (fault ≢ input_fault_is.Memory → input_fault slice want ≡ Some fault) → IfTold stop (λ ending text. (fault ≢ input_fault_is.Memory) × (ending ≡ status.Input) × (text ≡ input_line fault)) → Stops (InputComes shelf plan name) stop
input_refused shelf plan name front slice want fault Memory read sliced wants refused told = tt
input_refused shelf plan name front slice want fault (Told s line) read sliced wants refused (tells, is, printed) =
    subst (λ t. HasText t × InputComes shelf plan name t (string_bytes line)) (sym is) (tt, refused_input_line shelf.holds plan name front slice want fault (string_bytes line) read sliced wants (refused tells) printed)

-- what the first bytes of a schedule come to, the whole comes to
abbrev FaultOfFront : Type 0
FaultOfFront = (bytes : List ℕ) (t : Topology) → schedule_fault (take 1048577 bytes) t ≡ schedule_fault bytes t

abbrev EventsOfFront : Type 0
EventsOfFront = (bytes : List ℕ) (t : Topology) → schedule_fault bytes t ≡ None → events_of (take 1048577 bytes) ≡ events_of bytes

-- the events of a schedule that was read and accepted
pub events_by_front : FaultOfFront → EventsOfFront → (holds : List ℕ → List ℕ → Type 0) (plan : Topology) (name front slice : List ℕ) (events : List Event) → WasRead holds name 1048577 front → slice ≡ front → (schedule_fault slice plan ≡ None) × (events ≡ events_of slice) → AreEvents holds plan name events
events_by_front fault_of events_of_front holds plan name front slice events read sliced good =
    let same : schedule_fault read.bytes plan ≡ None = sym (fault_of read.bytes plan) ∙ (ap (λ f. schedule_fault f plan) (sym (sliced ∙ read.is_front)) ∙ good.0) in
    record {
      bytes = read.bytes;
      were_read = read.are_of;
      is_accepted = same;
      are = good.1 ∙ (ap events_of (sliced ∙ read.is_front) ∙ events_of_front read.bytes plan same);
    }

-- the line that refuses a schedule
refused_schedule_line : FaultOfFront → (holds : List ℕ → List ℕ → Type 0) (plan : Topology) (name front slice : List ℕ) (fault : ScheduleFault) (text : List ℕ) → WasRead holds name 1048577 front → slice ≡ front → schedule_fault slice plan ≡ Some fault → text ≡ schedule_line fault → IsScheduleLine holds plan name text
refused_schedule_line fault_of holds plan name front slice fault text read sliced refused line =
    record {
      bytes = read.bytes;
      were_read = read.are_of;
      fault = fault;
      is_refused = sym (fault_of read.bytes plan) ∙ (ap (λ f. schedule_fault f plan) (sym (sliced ∙ read.is_front)) ∙ refused);
      printed = line;
    }

-- a schedule that was refused
pub schedule_refused : FaultOfFront → (shelf : ShelfUse) (plan : Topology) (name front slice : List ℕ) (fault : ScheduleFault) (stop : EarlyEnd) → WasRead shelf.holds name 1048577 front → slice ≡ front → (fault ≢ schedule_fault_is.Memory → schedule_fault slice plan ≡ Some fault) → IfTold stop (λ ending text. (fault ≢ schedule_fault_is.Memory) × (ending ≡ status.Schedule) × (text ≡ schedule_line fault)) → Stops (ScheduleComes shelf plan name) stop
schedule_refused fault_of shelf plan name front slice fault Memory read sliced refused told = tt
schedule_refused fault_of shelf plan name front slice fault (Told s line) read sliced refused (tells, is, printed) =
    subst (λ t. HasText t × ScheduleComes shelf plan name t (string_bytes line)) (sym is) (tt, refused_schedule_line fault_of shelf.holds plan name front slice fault (string_bytes line) read sliced (refused tells) printed)

-- what comes of a file that was not read comes of the topology, of the input and of the schedule
pub topology_unread : (shelf : ShelfUse) (name : List ℕ) (s : Status) (text : List ℕ) → Fetched 1 shelf → NotReadComes shelf name topology_not_read s text → TopologyComes shelf name s text
topology_unread shelf name status.Memory text once comes = once
topology_unread shelf name status.ReadFault text once comes = (once, comes.0, comes.1)
topology_unread shelf name _ text once comes = absurd comes

pub input_unread : (shelf : ShelfUse) (plan : Topology) (name : List ℕ) (s : Status) (text : List ℕ) → NotReadComes shelf name input_not_read s text → InputComes shelf plan name s text
input_unread shelf plan name status.Memory text comes = tt
input_unread shelf plan name status.ReadFault text comes = comes
input_unread shelf plan name _ text comes = absurd comes

pub schedule_unread : (shelf : ShelfUse) (plan : Topology) (name : List ℕ) (s : Status) (text : List ℕ) → NotReadComes shelf name schedule_not_read s text → ScheduleComes shelf plan name s text
schedule_unread shelf plan name status.Memory text comes = tt
schedule_unread shelf plan name status.ReadFault text comes = comes
schedule_unread shelf plan name _ text comes = absurd comes

-- ---- several files

-- what comes of the topology alone comes of both files
pub files_of_topology : (shelf : ShelfUse) (topology input : List ℕ) (s : Status) (text : List ℕ) → TopologyComes shelf topology s text → FilesCome shelf topology input s text
files_of_topology shelf topology input status.Memory text comes = inl comes
files_of_topology shelf topology input status.Topology text comes = comes
files_of_topology shelf topology input status.ReadFault text comes = of_topology comes.0 comes.1 comes.2
files_of_topology shelf topology input _ text comes = absurd comes

-- a count that rose has risen since any moment before
rose_since : (a b c : ℕ) → a ≤ b → Rose b c → Rose a c
rose_since a b c before (inl more) = inl (omega arith)
rose_since a b c before (inr ends) = inr ends

-- one fetch and then one more are two, and two and then one more are three
pub two_fetches : (before mid after : ℕ) → mid ≡ (before + 1) % 2 ^ 64 → after ≡ (mid + 1) % 2 ^ 64 → after ≡ (before + 2) % 2 ^ 64
two_fetches before mid after first second = second ∙ (ap (λ m. (m + 1) % 2 ^ 64) first ∙ (mod-add-mod (before + 1) (2 ^ 64) 1 ∙ ap (λ n. n % 2 ^ 64) (omega arith)))

pub three_fetches : (before mid after : ℕ) → mid ≡ (before + 2) % 2 ^ 64 → after ≡ (mid + 1) % 2 ^ 64 → after ≡ (before + 3) % 2 ^ 64
three_fetches before mid after first second = second ∙ (ap (λ m. (m + 1) % 2 ^ 64) first ∙ (mod-add-mod (before + 2) (2 ^ 64) 1 ∙ ap (λ n. n % 2 ^ 64) (omega arith)))

-- what is told of a file before a call is told of it after
told_before : (was is : List ℕ → List ℕ → Type 0) (name bytes : List ℕ) → ((n b : List ℕ) → was n b → is n b) → AreBytesOf is name bytes → AreBytesOf was name bytes
told_before was is name bytes keeps are told holds = are told (keeps name told holds)

-- a shelf before and after all reads, and before and after the last of them
module _ (whole rest : ShelfUse) (keeps : (n b : List ℕ) → whole.holds n b → rest.holds n b) where
  pub records_before : (input : List ℕ) (plan : Topology) (records : List (List Value)) → AreRecords rest.holds plan input records → AreRecords whole.holds plan input records
  records_before input plan records are = record {
    bytes = are.bytes;
    were_read = told_before whole.holds rest.holds input are.bytes keeps are.were_read;
    is_accepted = are.is_accepted;
    are = are.are;
  }

  events_before : (schedule : List ℕ) (plan : Topology) (events : List Event) → AreEvents rest.holds plan schedule events → AreEvents whole.holds plan schedule events
  events_before schedule plan events are = record {
    bytes = are.bytes;
    were_read = told_before whole.holds rest.holds schedule are.bytes keeps are.were_read;
    is_accepted = are.is_accepted;
    are = are.are;
  }

  input_line_before : (input : List ℕ) (plan : Topology) (text : List ℕ) → IsInputLine rest.holds plan input text → IsInputLine whole.holds plan input text
  input_line_before input plan text line = record {
    bytes = line.bytes;
    were_read = told_before whole.holds rest.holds input line.bytes keeps line.were_read;
    fault = line.fault;
    is_refused = line.is_refused;
    printed = line.printed;
  }

  schedule_line_before : (schedule : List ℕ) (plan : Topology) (text : List ℕ) → IsScheduleLine rest.holds plan schedule text → IsScheduleLine whole.holds plan schedule text
  schedule_line_before schedule plan text line = record {
    bytes = line.bytes;
    were_read = told_before whole.holds rest.holds schedule line.bytes keeps line.were_read;
    fault = line.fault;
    is_refused = line.is_refused;
    printed = line.printed;
  }

  -- a file that was not read at the last
  unread_before : (name : List ℕ) → (whole.ready → rest.ready) → whole.faults_before ≤ rest.faults_before → rest.faults_after ≡ whole.faults_after → IsNotRead rest name → IsNotRead whole name
  unread_before name stays falls same unread = record {
    rose = subst (λ after. Rose whole.faults_before after) same (rose_since whole.faults_before rest.faults_before rest.faults_after falls unread.rose);
    never_ready = λ ready bytes told. unread.never_ready (stays ready) bytes (keeps name bytes told);
  }

  -- all three files were accepted
  pub all_accepted : (topology input schedule : List ℕ) (plan : Topology) (records : List (List Value)) (events : List Event) → AreAccepted whole.holds topology input plan records → AreEvents rest.holds plan schedule events → AreAllAccepted whole.holds topology input schedule plan records events
  all_accepted topology input schedule plan records events accepted are = record { files = accepted; schedule_file = events_before schedule plan events are }

  -- what comes of the input comes of both files
  pub files_of_input : (topology input : List ℕ) (plan : Topology) (s : Status) (text : List ℕ) → IsAccepted whole.holds topology plan → Fetched 2 whole → (whole.ready → rest.ready) → whole.faults_before ≤ rest.faults_before → rest.faults_after ≡ whole.faults_after → InputComes rest plan input s text → FilesCome whole topology input s text
  files_of_input topology input plan status.Memory text accepted twice stays falls same comes = inr twice
  files_of_input topology input plan status.Input text accepted twice stays falls same comes = (twice, (plan, accepted, input_line_before input plan text comes))
  files_of_input topology input plan status.ReadFault text accepted twice stays falls same comes = of_input twice (unread_before input stays falls same comes.0) plan accepted comes.1
  files_of_input topology input plan _ text accepted twice stays falls same comes = absurd comes

  -- what comes of the schedule comes of all three files
  pub files_of_schedule : (topology input schedule : List ℕ) (plan : Topology) (records : List (List Value)) (s : Status) (text : List ℕ) → AreAccepted whole.holds topology input plan records → Fetched 3 whole → (whole.ready → rest.ready) → whole.faults_before ≤ rest.faults_before → rest.faults_after ≡ whole.faults_after → ScheduleComes rest plan schedule s text
      → AllFilesCome whole topology input schedule s text
  files_of_schedule topology input schedule plan records status.Memory text accepted thrice stays falls same comes = inr thrice
  files_of_schedule topology input schedule plan records status.Schedule text accepted thrice stays falls same comes =
      (thrice, record { plan = plan; records = records; accepted = accepted; comes = schedule_line_before schedule plan text comes })
  files_of_schedule topology input schedule plan records status.ReadFault text accepted thrice stays falls same comes =
      let unread = unread_before schedule stays falls same comes.0 in
      inr (thrice, record { plan = plan; records = records; accepted = accepted; comes = unread }, comes.1)
  files_of_schedule topology input schedule plan records _ text accepted thrice stays falls same comes = absurd comes

-- what comes of the first two files comes of all three
pub files_of_two : (shelf : ShelfUse) (topology input schedule : List ℕ) (s : Status) (text : List ℕ) → FilesCome shelf topology input s text → AllFilesCome shelf topology input schedule s text
files_of_two shelf topology input schedule status.Memory text comes = inl comes
files_of_two shelf topology input schedule status.ReadFault text comes = inl comes
files_of_two shelf topology input schedule status.Schedule text comes = absurd comes
files_of_two shelf topology input schedule _ text comes = comes
