-- How many batches are committed, along a turn and an outcome.
use Rattle.std.proofs.Common.{◌≡◌, ℕ, zero, suc, ◌+◌, Bool, true, false, cond, List, [], ◌∷◌, Option, None, Some, refl, ◌∙◌}
use Rattle.commit_order.specs.acker_core.declared.verdict.Verdict.{Verdict}
use Rattle.commit_order.specs.acker_core.declared.verdict.Verdict.TheVariants.{Complete, Fails}
use Rattle.commit_order.specs.attempt_fates.declared.fates.Attempt.{Attempt}
use Rattle.commit_order.specs.attempt_fates.declared.fates.End.{End}
use Rattle.commit_order.specs.commit_turns.declared.wait.Wait.{Wait}
use Rattle.commit_order.specs.commit_turns.Desks.{Desk, Progress, still, timed_of}
use Rattle.commit_order.specs.commit_turns.Turns.{aborted, and_then, begun, complete_timed, decided, decided_by, end_timed, fill_more, filled, has_no_tick, heard, is_closed, next_to_commit, one_tick, ordered, passed, ticked, turned, turned_by, next_wait}
use Rattle.commit_order.specs.state_parts.declared.answer.CommitOutcome.TheVariants.{Done, Failed}
use Rattle.commit_order.specs.topology_plan.Topology.{Topology}
use Rattle.commit_order.specs.tree_model.declared.messages.AckMsg.{AckMsg}
use Rattle.commit_order.specs.taken_records.Cuts.{Cut}

module _ (t : Topology) (cut : Cut) where
  aborted-committed : (xs : List Attempt) (d : Desk) → (aborted t cut xs d).desk.committed ≡ d.committed
  aborted-committed [] d = refl
  aborted-committed (x ∷ xs) d = refl

  end_timed-committed : (how : End) (found : Option Wait) (d : Desk) → (end_timed t cut how found d).desk.committed ≡ d.committed
  end_timed-committed how None d = refl
  end_timed-committed how (Some w) d = refl

  complete_timed-committed : (list : List AckMsg) (closed : Bool) (found : Option Wait) (d : Desk) → (complete_timed t cut list closed found d).desk.committed ≡ d.committed
  complete_timed-committed list closed None d = refl
  complete_timed-committed list true (Some w) d = refl
  complete_timed-committed list false (Some w) d = refl

  heard-committed : (verdict : Option Verdict) (d : Desk) → (heard t cut verdict d).desk.committed ≡ d.committed
  heard-committed None d = refl
  heard-committed (Some (Complete root list)) d = complete_timed-committed list (is_closed list) (timed_of root d.pending) d
  heard-committed (Some (Fails root path)) d = end_timed-committed _ (timed_of root d.pending) d

  one_more : (b : Bool) (d : Desk) (p q : Progress) → p.desk.committed ≡ d.committed → q.desk.committed ≡ d.committed → (cond b p q).desk.committed ≡ d.committed
  one_more true d p q first second = first
  one_more false d p q first second = second

  ticked-committed : (n : ℕ) (d : Desk) → (ticked t cut n d).desk.committed ≡ d.committed
  ticked-committed zero d = refl
  ticked-committed (suc n) d =
      one_more (has_no_tick t cut d) d (still d) (and_then t cut (one_tick t cut d) (ticked t cut n (one_tick t cut d).desk)) refl
      (ticked-committed n (one_tick t cut d).desk ∙ aborted-committed _ _)

  filled-committed : (shut places : ℕ) (d : Desk) → (filled t cut shut places d).desk.committed ≡ d.committed
  filled-committed shut zero d = refl
  filled-committed shut (suc places) d = by (next_wait t cut shut d) (λ w. filled-committed shut places (begun t cut w d))
    where
      by : (next : Option Wait) → ((w : Wait) → (filled t cut shut places (begun t cut w d)).desk.committed ≡ d.committed)
          → (fill_more t cut (filled t cut shut places) d next).desk.committed ≡ d.committed
      by None more = refl
      by (Some w) more = more w

  turned_by-committed : (shut : ℕ) (stopped : Option ℕ) (p : Progress) → (turned_by t cut shut stopped p).desk.committed ≡ p.desk.committed
  turned_by-committed shut (Some txid) p = refl
  turned_by-committed shut None p = filled-committed shut t.pending (ordered t cut p.desk)

  pub turned-committed : (verdict : Option Verdict) (ticks shut : ℕ) (d : Desk) → (turned t cut verdict ticks shut d).desk.committed ≡ d.committed
  turned-committed verdict ticks shut d =
      let p = passed t cut ticks (heard t cut verdict d) in
      turned_by-committed shut p.desk.exhausted p
      ∙ ticked-committed ticks (heard t cut verdict d).desk
      ∙ heard-committed verdict d

  pub decided-done : (d : Desk) (w : Wait) → next_to_commit t cut d ≡ Some w → (decided t cut Done d).desk.committed ≡ d.committed + 1
  decided-done d w is = by (next_to_commit t cut d) is
    where
      by : (next : Option Wait) → next ≡ Some w → (decided_by t cut Done next d).desk.committed ≡ d.committed + 1
      by None is = absurd (let e : None ≡ Some w = is in cc)
      by (Some x) is = refl

  pub decided-failed : (d : Desk) (component part before after : ℕ) → (decided t cut (Failed component part before after) d).desk.committed ≡ d.committed
  decided-failed d component part before after = by (next_to_commit t cut d)
    where
      by : (next : Option Wait) → (decided_by t cut (Failed component part before after) next d).desk.committed ≡ d.committed
      by None = refl
      by (Some x) = refl
