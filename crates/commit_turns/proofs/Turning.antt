-- A turn of the coordinator, and the outcome of a commit.
use Rattle.std.proofs.Common.{◌≡◌, ℕ, ◌+◌, ◌&&◌, ◌==◌, Bool, true, false, Option, None, Some, List, [], ◌∷◌, ◌++◌, refl, sym, subst, ◌∙◌, arith, eqb-true}
use Rattle.std.specs.Prelude.{is_some}
use Rattle.std.proofs.lemmas.Bool.{and_parts}
use Rattle.std.proofs.lemmas.List.{append-nil}
use Rattle.tuple_account.specs.acker_core.declared.verdict.Verdict.{Verdict}
use Rattle.tuple_account.specs.acker_core.declared.verdict.Verdict.TheVariants.{Complete, Fails}
use Rattle.attempt_fates.specs.declared.fates.End.{End}
use Rattle.attempt_fates.specs.declared.fates.End.TheVariants as end
use Rattle.tuple_account.specs.storm_values.declared.value.Root.{Root}
use Rattle.tuple_account.specs.topology_plan.Topology.{Topology}
use Rattle.tuple_account.specs.topology_plan.Valid.{IsValid}
use Rattle.tuple_account.specs.tree_model.declared.messages.AckMsg.{AckMsg}
use Rattle.commit_turns.specs.declared.wait.Wait.{Wait}
use Rattle.commit_turns.specs.Desks.{is_of_root, is_timed, timed_of}
use Rattle.commit_turns.specs.Turns.{is_closed}
use Rattle.state_parts.specs.declared.answer.CommitOutcome.{CommitOutcome}
use Rattle.state_parts.specs.declared.answer.CommitOutcome.TheVariants as outcome
use Rattle.taken_records.specs.Cuts.{Cut, IsStart}
use Rattle.attempt_fates.specs.declared.fates.Attempt.{Attempt}
use Rattle.attempt_fates.specs.Fates.{is_abort, is_committed, is_failed_commit}
use Rattle.commit_turns.specs.Desks.{Desk}
use Rattle.commit_turns.specs.Turns.{begun, complete_timed, decided, decided_by, end_by, end_timed, filled, heard, next_to_commit, next_wait, ordered, turned}
use Rattle.commit_turns.proofs.Beginning.{going_begun, next_wait_is}
use Rattle.commit_turns.proofs.Closing.{closed_on}
use Rattle.commit_turns.proofs.Going.{IsGoing}
use Rattle.commit_turns.proofs.Lists.{Found, found}
use Rattle.commit_turns.proofs.Passing.{all_begun, all_turned}
use Rattle.commit_turns.proofs.Stepping.{going_commit, going_abort, going_out, going_settled}
use Rattle.commit_turns.proofs.Ticking.{going_tick, no_stop}

-- the test of a timed attempt of a root
abbrev pub is_timed_of : Root → Wait → Bool
is_timed_of root w = is_of_root root w && is_timed w

-- ---- a verdict is heard

module _ (t : Topology) (cut : Cut) (d : Desk) (fates : List Attempt) (going : IsGoing t cut d fates) (none : d.exhausted ≡ None) where
  stays : IsGoing t cut d (fates ++ [])
  stays = subst (IsGoing t cut d) (sym (append-nil fates)) going

  ends_timed : (how : End) → is_abort how ≡ true → is_failed_commit how ≡ false → (root : Root) (o : Option Wait) → timed_of root d.pending ≡ o
      → IsGoing t cut (end_timed t cut how o d).desk (fates ++ (end_timed t cut how o d).ended)
  ends_timed how is fell root None at = stays
  ends_timed how is fell root (Some w) at = going_abort t cut d fates going none (is_timed_of root) w (found (is_timed_of root) d.pending w at) how is (λ on. absurd (never (sym fell ∙ on)))
    where
      never : false ≡ true → ⊥
      never e = cc

  completes : (root : Root) (list : List AckMsg) (b : Bool) → is_closed list ≡ b → (o : Option Wait) → timed_of root d.pending ≡ o
      → IsGoing t cut (complete_timed t cut list b o d).desk (fates ++ (complete_timed t cut list b o d).ended)
  completes root list b is None at = stays
  completes root list true is (Some w) at =
      subst (IsGoing t cut (complete_timed t cut list true (Some w) d).desk) (sym (append-nil fates))
      (going_settled t cut d fates going none (is_timed_of root) w (found (is_timed_of root) d.pending w at) list (closed_on list is))
  completes root list false is (Some w) at = ends_timed (end.Coincided list) refl refl root (Some w) at

  pub going_heard : (verdict : Option Verdict) → IsGoing t cut (heard t cut verdict d).desk (fates ++ (heard t cut verdict d).ended)
  going_heard None = stays
  going_heard (Some (Complete root list)) = completes root list (is_closed list) refl (timed_of root d.pending) refl
  going_heard (Some (Fails root path)) = ends_timed (end.Failed path) refl refl root (timed_of root d.pending) refl

-- ---- a turn

module _ (t : Topology) (cut : Cut) (valid : IsValid t) (start : IsStart cut) where
  module _ (shut : ℕ) (fates : List Attempt) where
    abbrev pub Filling : Desk → List Wait → Type 0
    Filling d new = IsGoing t cut d fates × (d.exhausted ≡ None)

    pub begins : (d : Desk) (new : List Wait) (w : Wait) → next_wait t cut shut d ≡ Some w → Filling d new → Filling (begun t cut w d) (new ++ w ∷ [])
    begins d new w some going =
        (going_begun t cut start (let b = valid.buckets.0 in omega arith) shut d fates going.0 going.1 w (next_wait_is t cut d going.0.holds.one shut w some), going.1)

    pub going_filled : (d : Desk) → d.exhausted ≡ None → IsGoing t cut d fates → IsGoing t cut (filled t cut shut t.pending (ordered t cut d)).desk fates
    going_filled d none going = (all_begun t cut shut Filling begins t.pending (ordered t cut d) [] (going_out t cut d fates (ordered t cut d).out going, none)).0

  pub going_turned : (d : Desk) (fates : List Attempt) → d.exhausted ≡ None → IsGoing t cut d fates → (verdict : Option Verdict) (ticks shut : ℕ)
      → IsGoing t cut (turned t cut verdict ticks shut d).desk (fates ++ (turned t cut verdict ticks shut d).ended)
  going_turned d fates none going verdict ticks shut =
      all_turned t cut verdict ticks shut d fates (IsGoing t cut) (λ e ended new. IsGoing t cut e ended) (going_heard t cut d fates going none verdict)
      (λ e ended goes g. going_tick t cut e ended g (no_stop t cut e goes)) (λ e ended txid is g. g) (λ e ended still_none g. going_filled shut ended e still_none g)

-- ---- the outcome of a commit

-- the test of the attempt whose commit is next
abbrev pub is_next : Desk → Wait → Bool
is_next d w = (w.root.txid == d.committed + 1) && is_some w.settled

module _ (t : Topology) (cut : Cut) (d : Desk) where
  done_commits : (settled : Option (List AckMsg)) → is_committed (end_by t cut outcome.Done settled) ≡ true
  done_commits None = refl
  done_commits (Some list) = refl

  pub turn_of : (w : Wait) → Found (is_next d) d.pending w → w.root.txid ≡ d.committed + 1
  turn_of w at = eqb-true w.root.txid (d.committed + 1) (and_parts (w.root.txid == d.committed + 1) (is_some w.settled) at.passes).0

  module _ (fates : List Attempt) (going : IsGoing t cut d fates) (none : d.exhausted ≡ None) where
    decided_one : (how : CommitOutcome) (w : Wait) → Found (is_next d) d.pending w
        → IsGoing t cut (decided_by t cut how (Some w) d).desk (fates ++ (decided_by t cut how (Some w) d).ended)
    decided_one outcome.Done w at = going_commit t cut d fates going none (is_next d) w at (end_by t cut outcome.Done w.settled) (done_commits w.settled) (turn_of w at)
    decided_one (outcome.Failed component part before after) w at =
        going_abort t cut (record d { out = false }) fates (going_out t cut d fates false going) none (is_next d) w
        (record { before = at.before; behind = at.behind; split = at.split; passes = at.passes; missed = at.missed }) (end.CommitFailed component part before after) refl (λ fell. turn_of w at)

    pub going_decided : (how : CommitOutcome) → IsGoing t cut (decided t cut how d).desk (fates ++ (decided t cut how d).ended)
    going_decided how = by how (next_to_commit t cut d) refl
      where
        by : (how : CommitOutcome) (o : Option Wait) → next_to_commit t cut d ≡ o → IsGoing t cut (decided_by t cut how o d).desk (fates ++ (decided_by t cut how o d).ended)
        by outcome.Done None is = subst (IsGoing t cut (record d { out = false })) (sym (append-nil fates)) (going_out t cut d fates false going)
        by (outcome.Failed component part before after) None is = subst (IsGoing t cut (record d { out = false })) (sym (append-nil fates)) (going_out t cut d fates false going)
        by how (Some w) is = decided_one how w (found (is_next d) d.pending w is)
