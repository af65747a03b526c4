-- What the coordinator is told of a commit, and what happens in a turn.
use Rattle.std.specs.Prelude.{◌≡◌, Option, List, map}
use Rattle.std.specs.Option.{option_to_list}
use Rattle.tuple_account.specs.acker_core.declared.verdict.Verdict.{Verdict}
use Rattle.commit_turns.specs.declared.wait.Wait.{Wait}
use Rattle.state_parts.specs.declared.answer.CommitOutcome.{CommitOutcome}
use Rattle.state_parts.specs.declared.answer.CommitOutcome.TheVariants.{Done, Failed}
use Rattle.tuple_account.specs.storm_values.Counts.{Rose}
use Rattle.tuple_account.specs.storm_values.declared.value.Root.{Root}
use Rattle.tuple_account.specs.topology_plan.Topology.{Topology}
use Rattle.tuple_account.specs.Ends.{IsPart}
use Rattle.tuple_account.specs.Histories.{History, Opening, nothing}

-- a commit fails at a part of a state whose store's count of faults rose
abbrev pub IsOutcome : Topology → CommitOutcome → Type 0
IsOutcome t Done = Unit {0}
IsOutcome t (Failed component part before after) = IsPart t component part × Rose before after

-- the roots of attempts that begin
abbrev pub roots_begun : List Wait → List Root
roots_begun begun = map (λ (w : Wait). w.root) begun

-- the openings are of the roots of these attempts, in order; of their rows it says nothing
abbrev pub Begin : List Opening → List Wait → Type 0
Begin openings begun = map (λ (o : Opening). o.begun.root) openings ≡ roots_begun begun

-- a verdict is taken, and attempts begin
abbrev pub hears : Option Verdict → List Opening → History
hears verdict openings =
    record nothing { begun = openings; heard = option_to_list verdict }
