-- The commit that a turn orders is the one whose outcome is told next.
use Rattle.std.proofs.Common.{◌≡◌, ℕ, ◌+◌, ◌==◌, Bool, true, false, cond, Option, None, Some, List, [], ◌∷◌, ◌++◌, refl, sym, ap, ◌∙◌}
use Rattle.std.specs.Prelude.{is_some}
use Rattle.std.specs.List.{find}
use Rattle.std.proofs.lemmas.Bool.{and_right}
use Rattle.tuple_account.specs.acker_core.declared.verdict.Verdict.{Verdict}
use Rattle.tuple_account.specs.acker_core.declared.verdict.Verdict.TheVariants.{Complete, Fails}
use Rattle.attempt_fates.specs.declared.fates.End.TheVariants as end
use Rattle.tuple_account.specs.topology_plan.Topology.{Topology}
use Rattle.commit_turns.specs.declared.wait.Wait.{Wait}
use Rattle.commit_turns.specs.Desks.{timed_of}
use Rattle.commit_turns.specs.Turns.{is_closed}
use Rattle.taken_records.specs.Cuts.{Cut}
use Rattle.attempt_fates.specs.declared.fates.Attempt.{Attempt}
use Rattle.commit_turns.specs.Desks.{Desk, Progress}
use Rattle.commit_turns.specs.Turns.{begun, complete_timed, end_timed, aborted, filled, heard, late_at, in_time_at, next_to_commit, next_wait, ordered, passed, turned, turned_by}
use Rattle.commit_turns.proofs.Beginning.{next_wait_settled}
use Rattle.commit_turns.proofs.Passing.{all_begun, all_ticks}
use Rattle.commit_turns.proofs.Turning.{is_next}

find_push : {X : Type 0} (test : X → Bool) (xs : List X) (x : X) → test x ≡ false → find test (xs ++ x ∷ []) ≡ find test xs
find_push test [] x off = ap (λ (b : Bool). cond b (Some x) None) off
find_push test (y ∷ xs) x off = ap (cond (test y) (Some y)) (find_push test xs x off)

some_none : {X : Type 0} (x : X) → Some x ≡ None → ⊥
some_none x e = cc

module _ (t : Topology) (cut : Cut) where
  -- ---- attempts that begin are not settled

  module _ (shut : ℕ) (d : Desk) where
    record IsSame (e : Desk) (new : List Wait) : Type 0 where
      next : next_to_commit t cut e ≡ next_to_commit t cut d
      out : e.out ≡ is_some (next_to_commit t cut d)

    stays : (e : Desk) (new : List Wait) (w : Wait) → next_wait t cut shut e ≡ Some w → IsSame e new → IsSame (begun t cut w e) (new ++ w ∷ [])
    stays e new w some same = record {
      next = find_push (is_next e) e.pending w (and_right (w.root.txid == e.committed + 1) (is_some w.settled) (ap is_some (next_wait_settled t cut e shut w some))) ∙ same.next;
      out = same.out;
    }

    after_fill : IsSame (filled t cut shut t.pending (ordered t cut d)).desk (filled t cut shut t.pending (ordered t cut d)).begun
    after_fill = all_begun t cut shut IsSame stays t.pending (ordered t cut d) [] (record { next = refl; out = refl })

  -- ---- until then no commit is ordered

  aborted_out : (fell : List Attempt) (d : Desk) → (aborted t cut fell d).desk.out ≡ d.out
  aborted_out [] d = refl
  aborted_out (a ∷ fell) d = refl

  heard_out : (verdict : Option Verdict) (d : Desk) → (heard t cut verdict d).desk.out ≡ d.out
  heard_out None d = refl
  heard_out (Some (Complete root list)) d = by (is_closed list) (timed_of root d.pending)
    where
      by : (c : Bool) (o : Option Wait) → (complete_timed t cut list c o d).desk.out ≡ d.out
      by c None = refl
      by true (Some w) = refl
      by false (Some w) = refl
  heard_out (Some (Fails root path)) d = by (timed_of root d.pending)
    where
      by : (o : Option Wait) → (end_timed t cut (end.Failed path) o d).desk.out ≡ d.out
      by None = refl
      by (Some w) = refl

  passed_out : (ticks : ℕ) (p : Progress) (b : Bool) → p.desk.out ≡ b → (passed t cut ticks p).desk.out ≡ b
  passed_out ticks p b is =
      all_ticks t cut (λ (e : Desk) (ended : List Attempt). e.out ≡ b)
      (λ e ended goes same. aborted_out (late_at t cut (e.tick + 1) e.pending) (record e { tick = e.tick + 1; pending = in_time_at t cut (e.tick + 1) e.pending }) ∙ same) ticks p.desk p.ended is

  -- ---- a turn

  pub order_kept : (d : Desk) (verdict : Option Verdict) (ticks shut : ℕ) → (turned t cut verdict ticks shut d).desk.exhausted ≡ None
      → next_to_commit t cut (turned t cut verdict ticks shut d).desk ≡ (turned t cut verdict ticks shut d).commit
  order_kept d verdict ticks shut = by (passed t cut ticks (heard t cut verdict d)) (passed t cut ticks (heard t cut verdict d)).desk.exhausted refl
    where
      by : (p : Progress) (o : Option ℕ) → p.desk.exhausted ≡ o → (turned_by t cut shut o p).desk.exhausted ≡ None → next_to_commit t cut (turned_by t cut shut o p).desk ≡ (turned_by t cut shut o p).commit
      by p (Some txid) is none = absurd (some_none txid (sym is ∙ none))
      by p None is none = (after_fill shut p.desk).next

  pub order_out : (d : Desk) (verdict : Option Verdict) (ticks shut : ℕ) → d.out ≡ false → (turned t cut verdict ticks shut d).desk.out ≡ is_some (turned t cut verdict ticks shut d).commit
  order_out d verdict ticks shut off =
      by (passed t cut ticks (heard t cut verdict d)) (passed t cut ticks (heard t cut verdict d)).desk.exhausted (passed_out ticks (heard t cut verdict d) false (heard_out verdict d ∙ off))
    where
      by : (p : Progress) (o : Option ℕ) → p.desk.out ≡ false → (turned_by t cut shut o p).desk.out ≡ is_some (turned_by t cut shut o p).commit
      by p (Some txid) is = is
      by p None is = (after_fill shut p.desk).out
