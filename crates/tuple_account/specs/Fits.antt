-- The coordinator's own account: what it knows, and the ends that it told, fit what happened.
-- This project's own.
use Rattle.std.specs.Prelude.{◌≡◌, ◌≤◌, ◌<◌, ℕ, ◌+◌, ◌&&◌, nat_lt, Bool, if◌then◌else◌, List, ◌++◌, length, None, Some}
use Rattle.std.specs.List.{AllByRecursion}
use Rattle.tree_model.specs.counted_items.Weights.{weigh, Within}
use Rattle.tree_model.specs.storm_values.Counts.{Rose}
use Rattle.tree_model.specs.storm_values.declared.value.Root.{Root}
use Rattle.tree_model.specs.topology_plan.Topology.{Topology}
use Rattle.tree_model.specs.Lists.{IsClosed}
use Rattle.tree_model.specs.declared.messages.AckMsg.{AckMsg}
use Rattle.tuple_account.specs.Ends.{Ending, committed, failed, timed_out, coincided, commit_failed, dropped, Ended, Waits, Desk, IsPart, verdicts_of_ends, verdicts_of_waits, commits}
use Rattle.tuple_account.specs.Histories.{Opening, History, opens}
use Rattle.tuple_account.specs.Sound.{is_about}

-- what the coordinator tests of an end
abbrev pub CheckedBy : Topology → Ended → Ending → Type 0
CheckedBy t a (committed list) = IsClosed list
CheckedBy t a (failed path) = Unit {0}
CheckedBy t a timed_out = a.finish ≡ a.start + t.buckets
CheckedBy t a (coincided list) = IsClosed list → ⊥
CheckedBy t a (commit_failed component part before after) =
    IsPart t component part × Rose before after
CheckedBy t a (dropped by) = by.txid < a.root.txid

-- an end by the ticks that were counted
pub record IsEnd (t : Topology) (tick : ℕ) (a : Ended) : Type 0 where
  pub starts : a.start ≤ a.finish
  pub finishes : a.finish ≤ tick
  pub checked : CheckedBy t a a.ending

-- a pending attempt began at a tick, is of no transaction that was committed, and a list that it
-- was settled with is closed
pub record IsWaiting (desk : Desk) (w : Waits) : Type 0 where
  pub starts : w.start ≤ desk.tick
  pub later : desk.committed < w.root.txid
  pub closed : (list : List AckMsg) → w.settled ≡ Some list → IsClosed list

-- whether the attempt is one of the first that were begun
abbrev pub is_tried : (ℕ → ℕ) → Root → Bool
is_tried tries root = nat_lt 0 root.attempt && nat_lt root.attempt (tries root.txid + 1)

-- Of the attempts that were begun each ended or is pending.
pub record Fits (t : Topology) (desk : Desk) (fates : List Ended) (h : History) : Type 0 where
  -- as often as a root was begun it ended or is pending
  pub begun : (f : Root → ℕ)
      → weigh (λ (o : Opening). f o.begun.root) h.begun
      ≡ weigh (λ (a : Ended). f a.root) fates
      + weigh (λ (w : Waits). f w.root) desk.pending
  -- the attempts of a transaction that were begun have the numbers from 1 on, each once
  pub numbered : (root : Root)
      → weigh (opens root) h.begun ≡ (if is_tried desk.tries root then 1 else 0)
  -- each end by a verdict, and each settled list, has a verdict of its own that was heard
  pub heard : Within (verdicts_of_ends fates ++ verdicts_of_waits desk.pending) h.heard
  -- nothing was heard of a pending attempt that is not settled
  pub unheard : AllByRecursion
      (λ (w : Waits). w.settled ≡ None → weigh (is_about w.root) h.heard ≡ 0) desk.pending
  pub ends : AllByRecursion (IsEnd t desk.tick) fates
  pub waits : AllByRecursion (IsWaiting desk) desk.pending
  pub few : length desk.pending ≤ t.pending
  -- the first transactions after the start were committed, each once, and no other
  pub once : (txid : ℕ)
      → weigh (commits txid) fates
      ≡ (if nat_lt desk.start txid && nat_lt txid (desk.committed + 1) then 1 else 0)
