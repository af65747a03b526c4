-- The command `check`.
use Rattle.std.specs.Prelude.{◌≡◌, ℕ, List, [], ◌++◌, length, codes, decimal}
use Rattle.event_worlds.specs.topology_plan.Topology.{Topology, tasks_in_all, depth_of, weight_of}
use Rattle.event_worlds.specs.attempt_fates.declared.fates.Attempt.{Attempt}
use Rattle.storm_resume.specs.storm_answers.declared.status.Status.{Status}
use Rattle.storm_resume.specs.storm_answers.declared.status.Status.TheVariants as status
use Rattle.storm_resume.specs.storm_answers.Ends.{Promise}
use Rattle.storm_resume.specs.storm_answers.Files.{IsAccepted, IsTopologyLine, IsNotRead, TellsPlan, TellsTopologyFault}
use Rattle.storm_resume.specs.storm_answers.Outside.{ShelfUse, Fetched}
use Rattle.storm_resume.specs.storm_answers.Texts.{topology_not_read}
use Rattle.storm_resume.specs.stored_runs.Makers.{IsUntouched, MakerUse}

-- the line of these numbers of components and tasks, this weight and this depth

unfoldable pub size_line : ℕ → ℕ → ℕ → ℕ → List ℕ
size_line components tasks weight depth =
    codes "valid components " ++ decimal components
    ++ codes " tasks " ++ decimal tasks
    ++ codes " weight " ++ decimal weight
    ++ codes " depth " ++ decimal depth
    ++ codes "\n"

-- the line of a valid plan
abbrev pub valid_line : Topology → List ℕ
valid_line plan =
    size_line (length plan.components) (tasks_in_all plan) (weight_of plan) (depth_of plan)

-- the line of an accepted topology
pub record IsValidLine (holds : List ℕ → List ℕ → Type 0) (name text : List ℕ) : Type 0 where
  pub plan : Topology
  pub accepted : IsAccepted holds name plan
  pub printed : text ≡ valid_line plan

-- What a check comes to, by its status. No check comes to the other statuses.
abbrev pub CheckComes : ShelfUse → List ℕ → Status → List ℕ → Type 0
CheckComes shelf topology status.Done text = Fetched 1 shelf × IsValidLine shelf.holds topology text
CheckComes shelf topology status.Memory text = Fetched 1 shelf
CheckComes shelf topology status.Topology text =
    Fetched 1 shelf × IsTopologyLine shelf.holds topology text
CheckComes shelf topology status.ReadFault text =
    Fetched 1 shelf × IsNotRead shelf topology × (text ≡ topology_not_read)
CheckComes shelf topology _ text = ⊥

-- Which status the told topology calls for.
abbrev pub CheckCalls : (List ℕ → List ℕ → Type 0) → List ℕ → Status → Type 0
CheckCalls holds topology status.Done = (plan : Topology) × TellsPlan holds topology plan
CheckCalls holds topology status.Topology = TellsTopologyFault holds topology
CheckCalls holds topology _ = ⊥

-- A check as a command among others: it leaves fates and stores alone, and what it is called for is
-- all that it promises.
abbrev pub check_promise : ShelfUse → MakerUse → List Attempt → List ℕ → Promise
check_promise shelf stores fates topology = record {
  comes = λ ending text.
      CheckComes shelf topology ending text × (fates ≡ []) × IsUntouched stores;
  calls = CheckCalls shelf.holds topology;
  must_finish = ⊥;
}
