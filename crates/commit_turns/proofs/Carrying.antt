-- Each attempt keeps the spans that it began with.
use Rattle.std.proofs.Common.{◌≡◌, ℕ, zero, suc, ◌+◌, Bool, true, false, cond, not, Option, None, Some, List, [], ◌∷◌, ◌++◌, filter, map, refl, subst}
use Rattle.std.specs.List.{AllByRecursion, find}
use Rattle.tuple_account.specs.acker_core.declared.verdict.Verdict.{Verdict}
use Rattle.tuple_account.specs.acker_core.declared.verdict.Verdict.TheVariants.{Complete, Fails}
use Rattle.attempt_fates.specs.declared.fates.Attempt.{Attempt}
use Rattle.attempt_fates.specs.declared.fates.End.{End}
use Rattle.attempt_fates.specs.declared.fates.End.TheVariants as end
use Rattle.tuple_account.proofs.counted_items.Each.{each-append, each-to_map}
use Rattle.record_spans.specs.declared.span.Span.{Span}
use Rattle.state_parts.specs.declared.answer.CommitOutcome.{CommitOutcome}
use Rattle.state_parts.specs.declared.answer.CommitOutcome.TheVariants as outcome
use Rattle.tuple_account.specs.storm_values.declared.value.Root.{Root}
use Rattle.tuple_account.specs.topology_plan.Topology.{Topology}
use Rattle.tuple_account.specs.tree_model.declared.messages.AckMsg.{AckMsg}
use Rattle.taken_records.specs.Cuts.{Cut}
use Rattle.commit_turns.specs.declared.wait.Wait.{Wait}
use Rattle.commit_turns.specs.Desks.{Desk, ended_at, is_late, is_of_root, settled, timed_of, without}
use Rattle.commit_turns.specs.Kept.{HaveSpans}
use Rattle.commit_turns.specs.Turns.{aborted, begun, complete_timed, decided, decided_by, end_by, end_timed, ends_with, fill_more, filled, heard, in_time_at, is_closed, late_at, next_to_commit, next_wait, one_tick, ordered, turned}
use Rattle.commit_turns.proofs.Passing.{all_turned}
use Rattle.commit_turns.proofs.Turning.{is_next, is_timed_of}

module _ (R : Root → List Span → Type 0) where
  abbrev pub Has : Wait → Type 0
  Has w = R w.root w.spans

  abbrev pub Had : Attempt → Type 0
  Had a = R a.root a.spans

  -- ---- lists of pending attempts

  some_of : (test : Wait → Bool) (ws : List Wait) → AllByRecursion Has ws → AllByRecursion Has (filter test ws)
  some_of test [] all = tt
  some_of test (w ∷ ws) all = by (test w) (some_of test ws all.1)
    where
      by : (b : Bool) → AllByRecursion Has (filter test ws) → AllByRecursion Has (cond b (w ∷ filter test ws) (filter test ws))
      by true later = (all.0, later)
      by false later = later

  settled_all : (root : Root) (list : List AckMsg) (ws : List Wait) → AllByRecursion Has ws → AllByRecursion Has (settled root list ws)
  settled_all root list [] all = tt
  settled_all root list (w ∷ ws) all = (by (is_of_root root w), settled_all root list ws all.1)
    where
      by : (b : Bool) → Has (cond b (record w { settled = Some list }) w)
      by true = all.0
      by false = all.0

  found_one : (test : Wait → Bool) (ws : List Wait) (w : Wait) → find test ws ≡ Some w → AllByRecursion Has ws → Has w
  found_one test [] w is all = absurd (none is)
    where
      none : None ≡ Some w → ⊥
      none e = cc
  found_one test (v ∷ ws) w is all = by (test v) is (λ later. found_one test ws w later all.1)
    where
      same : Some v ≡ Some w → v ≡ w
      same e = cc

      by : (b : Bool) → cond b (Some v) (find test ws) ≡ Some w → (find test ws ≡ Some w → Has w) → Has w
      by true here later = subst Has (same here) all.0
      by false there later = later there

  module _ (t : Topology) (cut : Cut) where
    -- ---- attempts abort, and others end with them

    carries_aborted : (d : Desk) (fates xs : List Attempt) → AllByRecursion Has d.pending → AllByRecursion Had fates → AllByRecursion Had xs
        → HaveSpans R (aborted t cut xs d).desk (fates ++ (aborted t cut xs d).ended)
    carries_aborted d fates [] waits ends new = record { waits = waits; ends = each-append Had fates [] ends tt }
    carries_aborted d fates (first ∷ others) waits ends new = record {
      waits = some_of (λ (w : Wait). not (ends_with t cut first.root w)) d.pending waits;
      ends = each-append Had fates ((first ∷ others) ++ map (ended_at d.tick (end.Dropped first.root)) (filter (ends_with t cut first.root) d.pending)) ends
          (each-append Had (first ∷ others) (map (ended_at d.tick (end.Dropped first.root)) (filter (ends_with t cut first.root) d.pending)) new
          (each-to_map Had (ended_at d.tick (end.Dropped first.root)) (filter (ends_with t cut first.root) d.pending) (some_of (ends_with t cut first.root) d.pending waits)));
    }

    -- ---- a verdict is heard

    module _ (d : Desk) (fates : List Attempt) (all : HaveSpans R d fates) where
      stays : HaveSpans R d (fates ++ [])
      stays = record { waits = all.waits; ends = each-append Had fates [] all.ends tt }

      ends_timed : (how : End) (o : Option Wait) → ((w : Wait) → o ≡ Some w → Has w) → HaveSpans R (end_timed t cut how o d).desk (fates ++ (end_timed t cut how o d).ended)
      ends_timed how None has = stays
      ends_timed how (Some w) has =
          carries_aborted (record d { pending = without w.root d.pending }) fates (ended_at d.tick how w ∷ []) (some_of (λ (v : Wait). not (is_of_root w.root v)) d.pending all.waits) all.ends (has w refl, tt)

      completes : (list : List AckMsg) (b : Bool) (o : Option Wait) → ((w : Wait) → o ≡ Some w → Has w) → HaveSpans R (complete_timed t cut list b o d).desk (fates ++ (complete_timed t cut list b o d).ended)
      completes list b None has = stays
      completes list true (Some w) has = record { waits = settled_all w.root list d.pending all.waits; ends = each-append Had fates [] all.ends tt }
      completes list false (Some w) has = ends_timed (end.Coincided list) (Some w) has

      timed_one : (root : Root) (w : Wait) → timed_of root d.pending ≡ Some w → Has w
      timed_one root w is = found_one (is_timed_of root) d.pending w is all.waits

      carries_heard : (verdict : Option Verdict) → HaveSpans R (heard t cut verdict d).desk (fates ++ (heard t cut verdict d).ended)
      carries_heard None = stays
      carries_heard (Some (Complete root list)) = completes list (is_closed list) (timed_of root d.pending) (timed_one root)
      carries_heard (Some (Fails root path)) = ends_timed (end.Failed path) (timed_of root d.pending) (timed_one root)

    -- ---- a tick

    late_all : (tick : ℕ) (ws : List Wait) → AllByRecursion Has ws → AllByRecursion Had (late_at t cut tick ws)
    late_all tick ws all = each-to_map Had (ended_at tick end.TimedOut) (filter (is_late t.buckets tick) ws) (some_of (is_late t.buckets tick) ws all)

    carries_tick : (d : Desk) (fates : List Attempt) → HaveSpans R d fates → HaveSpans R (one_tick t cut d).desk (fates ++ (one_tick t cut d).ended)
    carries_tick d fates all =
        carries_aborted (record d { tick = d.tick + 1; pending = in_time_at t cut (d.tick + 1) d.pending }) fates (late_at t cut (d.tick + 1) d.pending)
        (some_of (λ (w : Wait). not (is_late t.buckets (d.tick + 1) w)) d.pending all.waits) all.ends (late_all (d.tick + 1) d.pending all.waits)

    -- ---- attempts begin

    pub carries_filled : (shut : ℕ) (d : Desk) (fates : List Attempt) → HaveSpans R d fates → (places : ℕ) → AllByRecursion Has (filled t cut shut places d).begun → HaveSpans R (filled t cut shut places d).desk fates
    carries_filled shut d fates all zero new = all
    carries_filled shut d fates all (suc places) new = by (next_wait t cut shut d) (λ w so_far. carries_filled shut (begun t cut w d) fates so_far places) new
      where
        by : (o : Option Wait) → ((w : Wait) → HaveSpans R (begun t cut w d) fates → AllByRecursion Has (filled t cut shut places (begun t cut w d)).begun → HaveSpans R (filled t cut shut places (begun t cut w d)).desk fates)
            → AllByRecursion Has (fill_more t cut (filled t cut shut places) d o).begun → HaveSpans R (fill_more t cut (filled t cut shut places) d o).desk fates
        by None later none = all
        by (Some w) later some = later w (record { waits = each-append Has d.pending (w ∷ []) all.waits (some.0, tt); ends = all.ends }) some.1

    -- ---- a turn, and the outcome of a commit

    module _ (d : Desk) (fates : List Attempt) (all : HaveSpans R d fates) where
      -- where those that begin are so, all are
      pub carries_turned : (verdict : Option Verdict) (ticks shut : ℕ) → AllByRecursion Has (turned t cut verdict ticks shut d).begun
          → HaveSpans R (turned t cut verdict ticks shut d).desk (fates ++ (turned t cut verdict ticks shut d).ended)
      carries_turned verdict ticks shut =
          all_turned t cut verdict ticks shut d fates (HaveSpans R) (λ e ended new. AllByRecursion Has new → HaveSpans R e ended) (carries_heard d fates all verdict)
          (λ e ended goes so_far. carries_tick e ended so_far) (λ e ended txid is so_far none. so_far)
          (λ e ended none so_far new. carries_filled shut (ordered t cut e) ended (record { waits = so_far.waits; ends = so_far.ends }) t.pending new)

      pub carries_decided : (how : CommitOutcome) → HaveSpans R (decided t cut how d).desk (fates ++ (decided t cut how d).ended)
      carries_decided how = by how (next_to_commit t cut d) (λ w is. found_one (is_next d) d.pending w is all.waits)
        where
          by : (how : CommitOutcome) (o : Option Wait) → ((w : Wait) → o ≡ Some w → Has w) → HaveSpans R (decided_by t cut how o d).desk (fates ++ (decided_by t cut how o d).ended)
          by outcome.Done None has = record { waits = all.waits; ends = each-append Had fates [] all.ends tt }
          by (outcome.Failed component part first last) None has = record { waits = all.waits; ends = each-append Had fates [] all.ends tt }
          by outcome.Done (Some w) has = record {
            waits = some_of (λ (v : Wait). not (is_of_root w.root v)) d.pending all.waits;
            ends = each-append Had fates (ended_at d.tick (end_by t cut outcome.Done w.settled) w ∷ []) all.ends (has w refl, tt);
          }
          by (outcome.Failed component part first last) (Some w) has =
              carries_aborted (record d { pending = without w.root d.pending; out = false }) fates (ended_at d.tick (end.CommitFailed component part first last) w ∷ [])
              (some_of (λ (v : Wait). not (is_of_root w.root v)) d.pending all.waits) all.ends (has w refl, tt)
