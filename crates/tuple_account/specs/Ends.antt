-- How attempts ended, and what the coordinator knows of those that did not.
-- This project's own.
use Rattle.std.specs.Prelude.{◌≡◌, ◌≤◌, ◌<◌, ℕ, ◌+◌, ◌==◌, if◌then◌else◌, List, [], ◌∷◌, Option, None, Some, slice_get}
use Rattle.std.specs.List.{flat_map}
use Rattle.acker_core.specs.declared.verdict.Verdict.{Verdict}
use Rattle.acker_core.specs.declared.verdict.Verdict.TheVariants.{Complete, Fails}
use Rattle.tree_model.specs.bolt_ops.RowOp.{Custom}
use Rattle.tree_model.specs.storm_values.Counts.{Rose}
use Rattle.tree_model.specs.storm_values.declared.value.Root.{Root}
use Rattle.tree_model.specs.storm_values.declared.value.Value.{Value}
use Rattle.tree_model.specs.topology_plan.declared.parts.Body.{Body}
use Rattle.tree_model.specs.topology_plan.declared.parts.Body.TheVariants.{Bolt, State}
use Rattle.tree_model.specs.topology_plan.declared.parts.Component.{Component}
use Rattle.tree_model.specs.topology_plan.Topology.{Topology}
use Rattle.tree_model.specs.declared.messages.AckMsg.{AckMsg}
use Rattle.tree_model.specs.Lists.{IsClosed, Covers, Coincides}
use Rattle.tuple_account.specs.Sound.{IsSound, FailsAt}

-- How an attempt ended. A commit that failed has the part that did not take it, and its store's
-- count of faults before and after. A dropped attempt has the one that aborted.
pub data Ending : Type 0 where
  committed : (list : List AckMsg) → Ending
  failed : (path : List ℕ) → Ending
  timed_out : Ending
  coincided : (list : List AckMsg) → Ending
  commit_failed : (component part before after : ℕ) → Ending
  dropped : (by : Root) → Ending

-- an attempt that ended, with the ticks of its begin and its end
pub record Ended : Type 0 where
  pub root : Root
  pub start : ℕ
  pub finish : ℕ
  pub ending : Ending

-- a pending attempt, with the tick of its begin, and the list that it was settled with, if it was
pub record Waits : Type 0 where
  pub root : Root
  pub start : ℕ
  pub settled : Option (List AckMsg)

-- The ticks that were counted, the transaction after which the coordinator began, the last one that
-- was committed, how many attempts of each were begun, and the pending ones.
pub record Desk : Type 0 where
  pub tick : ℕ
  pub start : ℕ
  pub committed : ℕ
  pub tries : ℕ → ℕ
  pub pending : List Waits

-- nothing was counted, begun or committed
abbrev pub first_desk : ℕ → Desk
first_desk start = record {
  tick = 0;
  start = start;
  committed = start;
  tries = λ txid. 0;
  pending = [];
}

-- ---- verdicts and lists of ends

abbrev pub verdicts_by : Root → Ending → List Verdict
verdicts_by root (committed list) = Complete root list ∷ []
verdicts_by root (failed path) = Fails root path ∷ []
verdicts_by root timed_out = []
verdicts_by root (coincided list) = Complete root list ∷ []
verdicts_by root (commit_failed component part before after) = []
verdicts_by root (dropped by) = []

-- the verdicts that ends come from
abbrev pub verdicts_of_ends : List Ended → List Verdict
verdicts_of_ends fates = flat_map (λ (a : Ended). verdicts_by a.root a.ending) fates

abbrev pub verdicts_settled : Root → Option (List AckMsg) → List Verdict
verdicts_settled root None = []
verdicts_settled root (Some list) = Complete root list ∷ []

-- the verdicts that pending attempts were settled by
abbrev pub verdicts_of_waits : List Waits → List Verdict
verdicts_of_waits pending = flat_map (λ (w : Waits). verdicts_settled w.root w.settled) pending

abbrev pub list_in : Ending → List AckMsg
list_in (committed list) = list
list_in (failed path) = []
list_in timed_out = []
list_in (coincided list) = list
list_in (commit_failed component part before after) = []
list_in (dropped by) = []

-- the messages of all lists in the fates
abbrev pub lists_of : List Ended → List AckMsg
lists_of fates = flat_map (λ (a : Ended). list_in a.ending) fates

abbrev pub commits_by : Ending → ℕ
commits_by (committed list) = 1
commits_by (failed path) = 0
commits_by timed_out = 0
commits_by (coincided list) = 0
commits_by (commit_failed component part before after) = 0
commits_by (dropped by) = 0

-- the weight that is 1 at the committed attempts of a transaction
abbrev pub commits : ℕ → Ended → ℕ
commits txid a = if a.root.txid == txid then commits_by a.ending else 0

-- ---- causes

abbrev pub IsState : Body → Type 0
IsState (Bolt op) = ⊥
IsState (State spec) = Unit {0}

-- the component is a state with such a part
abbrev pub IsPart : Topology → ℕ → ℕ → Type 0
IsPart t component part =
    (c : Component) × (slice_get t.components component ≡ Some c) × IsState c.body
    × (part < c.tasks)

module _ (t : Topology) (custom : Custom) (rows : List (List Value)) where
  -- A committed list is true, single, steady and closed, and covers the whole tree. A failed path
  -- is of a node that fails. A timeout comes as many ticks after the begin as there are buckets.
  -- A coincided list is true, single and steady, and its ids coincide. A commit fails at a part of
  -- a state whose store's count of faults rose. An attempt is dropped with one of a lower
  -- transaction.
  abbrev pub CauseBy : ℕ → Ended → Ending → Type 0
  CauseBy tick a (committed list) =
      IsSound t custom rows a.root list × IsClosed list × Covers t custom rows list
  CauseBy tick a (failed path) = FailsAt t custom rows a.root path
  CauseBy tick a timed_out = (a.finish ≡ a.start + t.buckets) × (a.finish ≤ tick)
  CauseBy tick a (coincided list) = IsSound t custom rows a.root list × Coincides list
  CauseBy tick a (commit_failed component part before after) =
      IsPart t component part × Rose before after
  CauseBy tick a (dropped by) = by.txid < a.root.txid

-- the attempt's end has its cause, where roots have these rows and so many ticks were counted
abbrev pub HasCause : Topology → Custom → (Root → List (List Value)) → ℕ → Ended → Type 0
HasCause t custom rows_of tick a = CauseBy t custom (rows_of a.root) tick a a.ending
