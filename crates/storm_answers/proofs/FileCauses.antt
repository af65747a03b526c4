-- Files that a shelf tells rule out every answer but the one that they call for.
use Rattle.std.proofs.Common.{◌≡◌, ◌⊎◌, ℕ, List, length, Some, refl, sym, ap, subst, ◌∙◌, inl, inr, string_bytes}
use Rattle.std.proofs.lemmas.Option.{none-some}
use Rattle.event_worlds.specs.storm_values.declared.value.Value.{Value}
use Rattle.event_worlds.specs.storm_values.Lines.{input_fault, records_of}
use Rattle.schedule_reader.specs.declared.event.Event.{Event}
use Rattle.schedule_reader.specs.Schedules.{events_of, schedule_fault}
use Rattle.storm_stores.specs.CellMaps.{CellMap}
use Rattle.event_worlds.specs.topology_plan.Topology.{Topology}
use Rattle.topology_reader.proofs.FilePlans.{one_plan, plan_or_fault}
use Rattle.topology_reader.specs.FirstFault.{first_fault, IsFilePlan}
use Rattle.storm_answers.specs.declared.status.Status.{Status}
use Rattle.storm_answers.specs.declared.status.Status.TheVariants as status
use Rattle.storm_answers.specs.declared.early_end.EarlyEnd.{EarlyEnd}
use Rattle.storm_answers.specs.declared.early_end.EarlyEnd.TheVariants.{Memory, Told}
use Rattle.storm_answers.specs.Ends.{AnswersCall, HasText, IsEndOfWork, TakesThePlace}
use Rattle.storm_answers.specs.Files.{AreAccepted, IsAccepted, AreRecords, IsTopologyLine, IsInputLine, IsReadFaultLine, of_topology, of_input, FilesCome, FilesCall, TellsPlan, TellsTopologyFault, TellsInput, TellsInputFault}
use Rattle.storm_answers.specs.Outside.{ShelfUse, SinkUse, ShelfFailed}
use Rattle.storm_answers.specs.Schedules.{AllFilesCome, AreEvents, IsScheduleLine, TellsEvents, TellsScheduleFault}
use Rattle.storm_answers.specs.steps.Stops.{IsMemory, Stops}
use Rattle.stored_runs.specs.Makers.{IsUntouched, maker_use}

module _ (holds : List ℕ → List ℕ → Type 0) (name : List ℕ) where
  -- ---- a topology

  -- the plan that was accepted is the told one
  pub same_plan : (plan other : Topology) → TellsPlan holds name plan → IsAccepted holds name other → other ≡ plan
  same_plan plan other tells accepted =
      one_plan tells.bytes other plan (subst (λ b. IsFilePlan b other) (sym (accepted.were_read tells.bytes tells.told)) accepted.is_plan) tells.is_plan

  -- a file with a fault is not accepted, and a file with a plan not refused
  pub never_accepted : (plan : Topology) → TellsTopologyFault holds name → IsAccepted holds name plan → ⊥
  never_accepted plan tells accepted =
      plan_or_fault tells.bytes plan tells.fault (subst (λ b. IsFilePlan b plan) (sym (accepted.were_read tells.bytes tells.told)) accepted.is_plan) tells.is_refused

  pub never_refused : (plan : Topology) (text : List ℕ) → TellsPlan holds name plan → IsTopologyLine holds name text → ⊥
  never_refused plan text tells line =
      plan_or_fault tells.bytes plan line.fault tells.is_plan (subst (λ b. first_fault b ≡ Some line.fault) (sym (line.were_read tells.bytes tells.told)) line.is_refused)

module _ (holds : List ℕ → List ℕ → Type 0) (topology input : List ℕ) (plan other : Topology) (tells : TellsPlan holds topology plan) (accepted : IsAccepted holds topology other) where
  -- ---- an input of the told topology

  fault_of : (told bytes : List ℕ) → told ≡ bytes → input_fault told (length plan.spout_fields) ≡ input_fault bytes (length other.spout_fields)
  fault_of told bytes same =
      ap (λ b. input_fault b (length plan.spout_fields)) same ∙ ap (λ (p : Topology). input_fault bytes (length p.spout_fields)) (sym (same_plan holds topology plan other tells accepted))

  pub never_bad : (text : List ℕ) → TellsInput holds plan input → IsInputLine holds other input text → ⊥
  never_bad text good line =
      none-some line.fault (sym good.is_accepted ∙ (fault_of good.bytes line.bytes (line.were_read good.bytes good.told) ∙ line.is_refused))

  pub never_good : (records : List (List Value)) → TellsInputFault holds plan input → AreRecords holds other input records → ⊥
  never_good records bad are =
      none-some bad.fault (sym are.is_accepted ∙ (sym (fault_of bad.bytes are.bytes (are.were_read bad.bytes bad.told)) ∙ bad.is_refused))

  -- the records that were accepted are the told ones
  pub same_records : (records : List (List Value)) (good : TellsInput holds plan input) → AreRecords holds other input records → records ≡ records_of good.bytes
  same_records records good are = are.are ∙ ap records_of (sym (are.were_read good.bytes good.told))

  -- ---- a schedule of the told topology

  schedule_fault_of : (told bytes : List ℕ) → told ≡ bytes → schedule_fault told plan ≡ schedule_fault bytes other
  schedule_fault_of told bytes same = ap (λ b. schedule_fault b plan) same ∙ ap (schedule_fault bytes) (sym (same_plan holds topology plan other tells accepted))

  pub never_bad_schedule : (schedule text : List ℕ) (events : List Event) → TellsEvents holds plan schedule events → IsScheduleLine holds other schedule text → ⊥
  never_bad_schedule schedule text events good line =
      none-some line.fault (sym good.is_accepted ∙ (schedule_fault_of good.bytes line.bytes (line.were_read good.bytes good.told) ∙ line.is_refused))

  pub never_good_schedule : (schedule : List ℕ) (events : List Event) → TellsScheduleFault holds plan schedule → AreEvents holds other schedule events → ⊥
  never_good_schedule schedule events bad are =
      none-some bad.fault (sym are.is_accepted ∙ (sym (schedule_fault_of bad.bytes are.bytes (are.were_read bad.bytes bad.told)) ∙ bad.is_refused))

  -- the events that were accepted are the told ones
  pub same_events : (schedule : List ℕ) (events told : List Event) → TellsEvents holds plan schedule told → AreEvents holds other schedule events → events ≡ told
  same_events schedule events told good are = are.are ∙ (ap events_of (sym (are.were_read good.bytes good.told)) ∙ sym good.are)

-- ---- the commands on two files

-- what such a command came to with a text, as far as its files are concerned
abbrev pub FilesCame : ShelfUse → List ℕ → List ℕ → Status → List ℕ → Type 0
FilesCame shelf topology input status.Memory text = Unit {0}
FilesCame shelf topology input status.Topology text = FilesCome shelf topology input status.Topology text
FilesCame shelf topology input status.Input text = FilesCome shelf topology input status.Input text
FilesCame shelf topology input status.ReadFault text = FilesCome shelf topology input status.ReadFault text
FilesCame shelf topology input ending text =
    IsEndOfWork ending × ((plan : Topology) × (records : List (List Value)) × AreAccepted shelf.holds topology input plan records)

module _ (shelf : ShelfUse) (sink : SinkUse) (topology input : List ℕ) where
  pub read_fault_rose : (text : List ℕ) → IsReadFaultLine shelf topology input text → ShelfFailed shelf
  read_fault_rose text (of_topology once unread line) = unread.rose
  read_fault_rose text (of_input twice unread plan accepted line) = unread.rose

  pub files_done : (plan : Topology) → TellsPlan shelf.holds topology plan → TellsInput shelf.holds plan input → (s : Status) (text : List ℕ) → HasText s → FilesCame shelf topology input s text → IsEndOfWork s ⊎ TakesThePlace shelf sink s
  files_done plan tells good status.Memory text has came = absurd has
  files_done plan tells good status.Topology text has came = absurd (never_refused shelf.holds topology plan text tells came.1)
  files_done plan tells good status.Input text has came = absurd (never_bad shelf.holds topology input plan came.1.0 tells came.1.1 text good came.1.2)
  files_done plan tells good status.ReadFault text has came = inr (read_fault_rose text came)
  files_done plan tells good _ text has came = inl came.0

  pub files_topology : TellsTopologyFault shelf.holds topology → (s : Status) (text : List ℕ) → HasText s → FilesCame shelf topology input s text → (s ≡ status.Topology) ⊎ TakesThePlace shelf sink s
  files_topology fault status.Memory text has came = absurd has
  files_topology fault status.Topology text has came = inl refl
  files_topology fault status.Input text has came = absurd (never_accepted shelf.holds topology came.1.0 fault came.1.1)
  files_topology fault status.ReadFault text has came = inr (read_fault_rose text came)
  files_topology fault _ text has came = absurd (never_accepted shelf.holds topology came.1.0 fault came.1.2.topology_file)

  pub files_input : (plan : Topology) → TellsPlan shelf.holds topology plan → TellsInputFault shelf.holds plan input → (s : Status) (text : List ℕ) → HasText s → FilesCame shelf topology input s text → (s ≡ status.Input) ⊎ TakesThePlace shelf sink s
  files_input plan tells bad status.Memory text has came = absurd has
  files_input plan tells bad status.Topology text has came = absurd (never_refused shelf.holds topology plan text tells came.1)
  files_input plan tells bad status.Input text has came = inl refl
  files_input plan tells bad status.ReadFault text has came = inr (read_fault_rose text came)
  files_input plan tells bad _ text has came = absurd (never_good shelf.holds topology input plan came.1.0 tells came.1.2.topology_file came.1.1 bad came.1.2.input_file)

  pub files_agree : (s called : Status) (text : List ℕ) → HasText s → FilesCame shelf topology input s text → FilesCall shelf.holds topology input called → AnswersCall called s ⊎ TakesThePlace shelf sink s
  files_agree s status.Done text has came calls = files_done calls.0 calls.1 calls.2 s text has came
  files_agree s status.Topology text has came calls = files_topology calls s text has came
  files_agree s status.Input text has came calls = files_input calls.0 calls.1 calls.2 s text has came
  files_agree s _ text has came calls = absurd calls

-- ---- files that were not accepted, where the told ones are good

module _ (shelf : ShelfUse) (topology input : List ℕ) (plan : Topology) (tells_plan : TellsPlan shelf.holds topology plan) (tells_input : TellsInput shelf.holds plan input) (fine : (ShelfFailed shelf → ⊥) ⊎ shelf.ready) where
  never_unread : (text : List ℕ) → IsReadFaultLine shelf topology input text → ⊥
  never_unread text line = by fine line
    where
      by : (ShelfFailed shelf → ⊥) ⊎ shelf.ready → IsReadFaultLine shelf topology input text → ⊥
      by (inl never) (of_topology once unread is) = never unread.rose
      by (inl never) (of_input twice unread other accepted is) = never unread.rose
      by (inr ready) (of_topology once unread is) = unread.never_ready ready tells_plan.bytes tells_plan.told
      by (inr ready) (of_input twice unread other accepted is) = unread.never_ready ready tells_input.bytes tells_input.told

  pub files_never : (s : Status) (text : List ℕ) → HasText s → FilesCome shelf topology input s text → ⊥
  files_never status.Memory text has comes = has
  files_never status.Topology text has comes = never_refused shelf.holds topology plan text tells_plan comes.1
  files_never status.Input text has comes = never_bad shelf.holds topology input plan comes.1.0 tells_plan comes.1.1 text tells_input comes.1.2
  files_never status.ReadFault text has comes = never_unread text comes
  files_never _ text has comes = comes

  pub all_files_never : (schedule : List ℕ) (events : List Event) → TellsEvents shelf.holds plan schedule events → (s : Status) (text : List ℕ) → HasText s → AllFilesCome shelf topology input schedule s text → ⊥
  all_files_never schedule events tells status.Memory text has comes = has
  all_files_never schedule events tells status.ReadFault text has (inl comes) = never_unread text comes
  all_files_never schedule events tells status.ReadFault text has (inr comes) = by fine
    where
      by : (ShelfFailed shelf → ⊥) ⊎ shelf.ready → ⊥
      by (inl never) = never comes.1.comes.rose
      by (inr ready) = comes.1.comes.never_ready ready tells.bytes tells.told
  all_files_never schedule events tells status.Schedule text has comes =
      never_bad_schedule shelf.holds topology input plan comes.1.plan tells_plan comes.1.accepted.topology_file schedule text events tells comes.1.comes
  all_files_never schedule events tells s text has comes = files_never s text has comes

  pub finishes_by_files : (stop : EarlyEnd) → Stops (FilesCome shelf topology input) stop → IsMemory stop
  finishes_by_files Memory stops = tt
  finishes_by_files (Told s line) stops = absurd (files_never s (string_bytes line) stops.0 stops.1)

  pub finishes_by_all_files : (schedule : List ℕ) (events : List Event) → TellsEvents shelf.holds plan schedule events → (stop : EarlyEnd) → Stops (AllFilesCome shelf topology input schedule) stop → IsMemory stop
  finishes_by_all_files schedule events tells Memory stops = tt
  finishes_by_all_files schedule events tells (Told s line) stops = absurd (all_files_never schedule events tells s (string_bytes line) stops.0 stops.1)

-- a maker that was not called is untouched
pub untouched : {S M : Type 0} (tells : S → CellMap → Type 0) (count : S → ℕ) (holds : M → ℕ → ℕ → CellMap → Type 0) (made : M → ℕ → ℕ → Type 0) (faults : M → ℕ) (maker : M) → IsUntouched (maker_use tells count holds made faults maker maker)
untouched tells count holds made faults maker = record { none_made = λ c p was. was; same = λ c p cells held. held; no_fault = refl }
