-- No attempt that ends in a turn ends by a commit that failed.
use Rattle.std.proofs.Common.{◌≡◌, ◌+◌, ℕ, zero, suc, Bool, true, false, cond, List, [], ◌∷◌, ◌++◌, map, filter, Option, None, Some, refl, ap, ◌∙◌}
use Rattle.std.proofs.lemmas.List.Elements.{filter-append}
use Rattle.tuple_account.specs.acker_core.declared.verdict.Verdict.{Verdict}
use Rattle.tuple_account.specs.acker_core.declared.verdict.Verdict.TheVariants.{Complete, Fails}
use Rattle.attempt_fates.specs.declared.fates.Attempt.{Attempt}
use Rattle.attempt_fates.specs.declared.fates.End.TheVariants as end
use Rattle.commit_turns.specs.declared.wait.Wait.{Wait}
use Rattle.commit_turns.specs.Desks.{Desk, Progress, ended_at, is_late, still, timed_of, without}
use Rattle.attempt_fates.specs.Fates.{is_failed_commit}
use Rattle.commit_turns.specs.Turns.{aborted, and_then, complete_timed, drops, end_timed, ends_with, has_no_tick, heard, in_time_at, is_closed, late_at, one_tick, passed, ticked, turned, turned_by}
use Rattle.tuple_account.specs.storm_values.declared.value.Root.{Root}
use Rattle.tuple_account.specs.topology_plan.Topology.{Topology}
use Rattle.tuple_account.specs.tree_model.declared.messages.AckMsg.{AckMsg}
use Rattle.taken_records.specs.Cuts.{Cut}

-- the attempts whose commit failed
abbrev pub failed_of : List Attempt → List Attempt
failed_of xs = filter (λ (a : Attempt). is_failed_commit a.end) xs

none_in_both : (xs ys : List Attempt) → failed_of xs ≡ [] → failed_of ys ≡ [] → failed_of (xs ++ ys) ≡ []
none_in_both xs ys one two = filter-append (λ (a : Attempt). is_failed_commit a.end) xs ys ∙ ap (λ (zs : List Attempt). zs ++ failed_of ys) one ∙ two

none_late : (tick : ℕ) (ws : List Wait) → failed_of (map (ended_at tick end.TimedOut) ws) ≡ []
none_late tick [] = refl
none_late tick (w ∷ ws) = none_late tick ws

pub none_dropped : (tick : ℕ) (by : Root) (ws : List Wait) → failed_of (map (ended_at tick (end.Dropped by)) ws) ≡ []
none_dropped tick by [] = refl
none_dropped tick by (w ∷ ws) = none_dropped tick by ws

module _ (t : Topology) (cut : Cut) where
  -- none of those that abort, and then none of those that are dropped with them
  none_aborted : (xs : List Attempt) (d : Desk) → failed_of xs ≡ [] → failed_of (aborted t cut xs d).ended ≡ []
  none_aborted [] d none = refl
  none_aborted (x ∷ xs) d none =
      none_in_both (x ∷ xs) (drops t cut d.tick x.root d.pending) none
      (none_dropped d.tick x.root (filter (ends_with t cut x.root) d.pending))

  none_ticked : (n : ℕ) (d : Desk) → failed_of (ticked t cut n d).ended ≡ []
  none_ticked zero d = refl
  none_ticked (suc n) d = at (has_no_tick t cut d) (none_ticked n (one_tick t cut d).desk)
    where
      at : (b : Bool) → failed_of (ticked t cut n (one_tick t cut d).desk).ended ≡ []
          → failed_of (cond b (still d) (and_then t cut (one_tick t cut d) (ticked t cut n (one_tick t cut d).desk))).ended ≡ []
      at true rest = refl
      at false rest =
          none_in_both (one_tick t cut d).ended (ticked t cut n (one_tick t cut d).desk).ended
          (none_aborted (late_at t cut (d.tick + 1) d.pending)
          (record d { tick = d.tick + 1; pending = in_time_at t cut (d.tick + 1) d.pending })
          (none_late (d.tick + 1) (filter (is_late t.buckets (d.tick + 1)) d.pending))) rest

  none_completed : (list : List AckMsg) (closed : Bool) (o : Option Wait) (d : Desk) → failed_of (complete_timed t cut list closed o d).ended ≡ []
  none_completed list closed None d = refl
  none_completed list true (Some w) d = refl
  none_completed list false (Some w) d =
      none_aborted (ended_at d.tick (end.Coincided list) w ∷ []) (record d { pending = without w.root d.pending }) refl

  none_failed : (path : List ℕ) (o : Option Wait) (d : Desk) → failed_of (end_timed t cut (end.Failed path) o d).ended ≡ []
  none_failed path None d = refl
  none_failed path (Some w) d = none_aborted (ended_at d.tick (end.Failed path) w ∷ []) (record d { pending = without w.root d.pending }) refl

  none_heard : (verdict : Option Verdict) (d : Desk) → failed_of (heard t cut verdict d).ended ≡ []
  none_heard None d = refl
  none_heard (Some (Complete root list)) d = none_completed list (is_closed list) (timed_of root d.pending) d
  none_heard (Some (Fails root path)) d = none_failed path (timed_of root d.pending) d

  none_turned_by : (shut : ℕ) (o : Option ℕ) (p : Progress) → failed_of p.ended ≡ [] → failed_of (turned_by t cut shut o p).ended ≡ []
  none_turned_by shut None p none = none
  none_turned_by shut (Some txid) p none = none

  -- none of the attempts that end in a turn
  pub none_turned : (verdict : Option Verdict) (ticks shut : ℕ) (d : Desk) → failed_of (turned t cut verdict ticks shut d).ended ≡ []
  none_turned verdict ticks shut d =
      let first = heard t cut verdict d in
      none_turned_by shut (passed t cut ticks first).desk.exhausted (passed t cut ticks first)
      (none_in_both first.ended (ticked t cut ticks first.desk).ended (none_heard verdict d) (none_ticked ticks first.desk))
