-- What a turn of the coordinator and an outcome keep.
use Rattle.std.proofs.Common.{◌≡◌, ◌≤◌, ℕ, zero, suc, ◌+◌, ◌==◌, ◌&&◌, Bool, true, false, cond, true≢false, Option, None, Some, List, [], ◌∷◌, ◌++◌, length, map, filter, refl, sym, ap, subst, ◌∙◌, eq-eqb, eqb-true, arith}
use Rattle.std.specs.Prelude.{is_some}
use Rattle.std.specs.List.{find}
use Rattle.std.proofs.lemmas.Bool.Decides.{nat_tests}
use Rattle.event_worlds.specs.acker_core.declared.verdict.Verdict.{Verdict}
use Rattle.event_worlds.specs.acker_core.declared.verdict.Verdict.TheVariants.{Complete, Fails}
use Rattle.event_worlds.specs.attempt_fates.declared.fates.Attempt.{Attempt}
use Rattle.event_worlds.specs.attempt_fates.declared.fates.End.TheVariants as end
use Rattle.event_worlds.specs.commit_order.Orders.{stop_by}
use Rattle.event_worlds.specs.commit_turns.declared.wait.Wait.{Wait}
use Rattle.event_worlds.specs.commit_turns.Desks.{Desk, Progress, ended_at, still, timed_of, without}
use Rattle.event_worlds.specs.commit_turns.Turns.{aborted, and_then, begun, complete_timed, decided, decided_by, end_by, end_timed, ends_with, fill_more, filled, has_no_tick, heard, in_time_at, is_closed, is_finished, last_tick, late_at, next_to_commit, one_tick, ordered, passed, ticked, turned, turned_by, next_wait}
use Rattle.event_engine.proofs.GoesLemmas.{outcomes-append}
use Rattle.event_worlds.specs.Worlds.{outcomes_of}
use Rattle.event_worlds.specs.record_offers.Offers.{left_in}
use Rattle.event_worlds.specs.state_parts.declared.answer.CommitOutcome.{CommitOutcome}
use Rattle.event_worlds.specs.state_parts.declared.answer.CommitOutcome.TheVariants as outcome
use Rattle.event_worlds.specs.storm_values.declared.value.Root.{Root}
use Rattle.event_worlds.specs.topology_plan.Topology.{Topology}
use Rattle.event_worlds.specs.tree_model.declared.messages.AckMsg.{AckMsg}
use Rattle.event_worlds.specs.taken_records.Cuts.{Cut}

and_first : (a b : Bool) → (a && b) ≡ true → a ≡ true
and_first true b is = refl
and_first false b is = is

some_none : {X : Type 0} (x : X) → Some x ≡ None → ⊥
some_none x e = cc

-- ticks end at the last number
abbrev pub Passes : Desk → Desk → Type 0
Passes d e = d.tick ≤ last_tick → e.tick ≤ last_tick

below_last : (o : Option ℕ) (tick : ℕ) → cond (is_some o) true (tick == last_tick) ≡ false → tick ≤ last_tick → tick + 1 ≤ last_tick
below_last (Some txid) tick goes few = absurd (true≢false goes)
below_last None tick goes few = by (tick == last_tick) refl
  where
    by : (b : Bool) → (tick == last_tick) ≡ b → tick + 1 ≤ last_tick
    by true is = absurd (true≢false (sym is ∙ goes))
    by false is = let other : tick ≡ last_tick → ⊥ = λ e. true≢false (sym (eq-eqb tick last_tick e) ∙ is) in omega (arith, other)

module _ (t : Topology) (cut : Cut) where
  -- attempts that abort take no time
  aborted_tick : (fates : List Attempt) (d : Desk) → (aborted t cut fates d).desk.tick ≡ d.tick
  aborted_tick [] d = refl
  aborted_tick (first ∷ others) d = refl

  heard_passes : (verdict : Option Verdict) (d : Desk) → Passes d (heard t cut verdict d).desk
  heard_passes None d = λ few. few
  heard_passes (Some (Complete root list)) d = by (is_closed list) (timed_of root d.pending)
    where
      by : (c : Bool) (o : Option Wait) → Passes d (complete_timed t cut list c o d).desk
      by c None = λ few. few
      by true (Some w) = λ few. few
      by false (Some w) = λ few. few
  heard_passes (Some (Fails root path)) d = by (timed_of root d.pending)
    where
      by : (o : Option Wait) → Passes d (end_timed t cut (end.Failed path) o d).desk
      by None = λ few. few
      by (Some w) = λ few. few

  ticked_passes : (n : ℕ) (d : Desk) → Passes d (ticked t cut n d).desk
  ticked_passes zero d = λ few. few
  ticked_passes (suc n) d = by (has_no_tick t cut d) refl (ticked_passes n (one_tick t cut d).desk)
    where
      one : (one_tick t cut d).desk.tick ≡ d.tick + 1
      one = aborted_tick (late_at t cut (d.tick + 1) d.pending) (record d { tick = d.tick + 1; pending = in_time_at t cut (d.tick + 1) d.pending })

      by : (b : Bool) → has_no_tick t cut d ≡ b → Passes (one_tick t cut d).desk (ticked t cut n (one_tick t cut d).desk).desk
          → Passes d (cond b (still d) (and_then t cut (one_tick t cut d) (ticked t cut n (one_tick t cut d).desk))).desk
      by true stays rest = λ few. few
      by false goes rest = λ few. rest (subst (λ (n : ℕ). n ≤ last_tick) (sym one) (below_last d.exhausted d.tick goes few))

  -- beginning attempts leaves all else as it is
  record Fills (d e : Desk) : Type 0 where
    ticks : e.tick ≡ d.tick
    exhausted : e.exhausted ≡ d.exhausted

  filled_fills : (shut places : ℕ) (d : Desk) → Fills d (filled t cut shut places d).desk
  filled_fills shut zero d = record { ticks = refl; exhausted = refl }
  filled_fills shut (suc places) d = by (next_wait t cut shut d) (λ w. filled_fills shut places (begun t cut w d))
    where
      by : (o : Option Wait) → ((w : Wait) → Fills (begun t cut w d) (filled t cut shut places (begun t cut w d)).desk) → Fills d (fill_more t cut (filled t cut shut places) d o).desk
      by None more = record { ticks = refl; exhausted = refl }
      by (Some w) more = record { ticks = (more w).ticks; exhausted = (more w).exhausted }

  turned_by_passes : (shut : ℕ) (d : Desk) (o : Option ℕ) (p : Progress) → Passes d p.desk → Passes d (turned_by t cut shut o p).desk
  turned_by_passes shut d (Some txid) p passes = passes
  turned_by_passes shut d None p passes = λ few. subst (λ (n : ℕ). n ≤ last_tick) (sym (filled_fills shut t.pending (ordered t cut p.desk)).ticks) (passes few)

  pub turned_passes : (verdict : Option Verdict) (ticks shut : ℕ) (d : Desk) → Passes d (turned t cut verdict ticks shut d).desk
  turned_passes verdict ticks shut d =
      let h : Progress = heard t cut verdict d in
      turned_by_passes shut d (passed t cut ticks h).desk.exhausted (passed t cut ticks h) (λ few. ticked_passes ticks h.desk (heard_passes verdict d few))

  -- a turn that stops begins none
  pub stopped_begins : (verdict : Option Verdict) (ticks shut : ℕ) (d : Desk) (txid : ℕ) → (turned t cut verdict ticks shut d).desk.exhausted ≡ Some txid → (turned t cut verdict ticks shut d).begun ≡ []
  stopped_begins verdict ticks shut d txid = by (passed t cut ticks (heard t cut verdict d)) (passed t cut ticks (heard t cut verdict d)).desk.exhausted refl
    where
      by : (p : Progress) (o : Option ℕ) → p.desk.exhausted ≡ o → (turned_by t cut shut o p).desk.exhausted ≡ Some txid → (turned_by t cut shut o p).begun ≡ []
      by p (Some other) is stops = refl
      by p None is stops = absurd (some_none txid (sym stops ∙ (filled_fills shut t.pending (ordered t cut p.desk)).exhausted ∙ is))

  -- ---- the commit of a turn

  find_true : {X : Type 0} (test : X → Bool) (xs : List X) (x : X) → find test xs ≡ Some x → test x ≡ true
  find_true test [] x is = absurd (some_none x (sym is))
  find_true test (y ∷ ys) x is = by (test y) refl is (find_true test ys x)
    where
      by : (b : Bool) → test y ≡ b → cond b (Some y) (find test ys) ≡ Some x → (find test ys ≡ Some x → test x ≡ true) → test x ≡ true
      by true so is rest = let same : y ≡ x = cc in ap test (sym same) ∙ so
      by false so is rest = rest is

  -- the next to be committed comes right after those that were
  pub next_follows : (d : Desk) (w : Wait) → next_to_commit t cut d ≡ Some w → w.root.txid ≡ d.committed + 1
  next_follows d w is = eqb-true w.root.txid (d.committed + 1) (and_first (w.root.txid == d.committed + 1) (is_some w.settled) (find_true (λ (v : Wait). (v.root.txid == d.committed + 1) && is_some v.settled) d.pending w is))

  -- where one is next, some record is left uncommitted
  pub next_unfinished : (d : Desk) (w : Wait) → next_to_commit t cut d ≡ Some w → is_finished t cut d ≡ false
  next_unfinished d w is = none (left_in d.gone == 0) (length d.pending == 0) (some d.pending is)
    where
      some : (pending : List Wait) → find (λ (v : Wait). (v.root.txid == d.committed + 1) && is_some v.settled) pending ≡ Some w → (length pending == 0) ≡ false
      some [] is = absurd (some_none w (sym is))
      some (v ∷ pending) is = grind (arith, nat_tests)

      none : (b c : Bool) → c ≡ false → (b && c) ≡ false
      none true c off = off
      none false c off = refl

  -- ---- an outcome

  -- an attempt that is dropped has no commit that was carried out
  drops_tell : (tick : ℕ) (by : Root) (ws : List Wait) → outcomes_of (map (ended_at tick (end.Dropped by)) ws) ≡ []
  drops_tell tick by [] = refl
  drops_tell tick by (w ∷ ws) = drops_tell tick by ws

  -- the fates tell what came of the commit
  pub decided_tells : (how : CommitOutcome) (w : Wait) (d : Desk) (fates : List Attempt) → next_to_commit t cut d ≡ Some w
      → outcomes_of (fates ++ (decided t cut how d).ended) ≡ outcomes_of fates ++ how ∷ []
  decided_tells how w d fates is = ap (λ (o : Option Wait). outcomes_of (fates ++ (decided_by t cut how o d).ended)) is ∙ outcomes-append fates (decided_by t cut how (Some w) d).ended ∙ ap (λ xs. outcomes_of fates ++ xs) (tells how w.settled refl)
    where
      tells : (h : CommitOutcome) (settled : Option (List AckMsg)) → w.settled ≡ settled → outcomes_of (decided_by t cut h (Some w) d).ended ≡ h ∷ []
      tells outcome.Done None is = ap (λ (o : Option (List AckMsg)). outcomes_of (ended_at d.tick (end_by t cut outcome.Done o) w ∷ [])) is
      tells outcome.Done (Some list) is = ap (λ (o : Option (List AckMsg)). outcomes_of (ended_at d.tick (end_by t cut outcome.Done o) w ∷ [])) is
      tells (outcome.Failed component part before after) settled is =
          ap (λ os. outcome.Failed component part before after ∷ os) (drops_tell d.tick w.root (filter (ends_with t cut w.root) (without w.root d.pending)))

  -- no commit is out after its outcome
  pub decided_out : (how : CommitOutcome) (o : Option Wait) (d : Desk) → (decided_by t cut how o d).desk.out ≡ false
  decided_out how None d = refl
  decided_out outcome.Done (Some w) d = refl
  decided_out (outcome.Failed component part before after) (Some w) d = refl

  pub decided_tick : (how : CommitOutcome) (o : Option Wait) (d : Desk) → (decided_by t cut how o d).desk.tick ≡ d.tick
  decided_tick how None d = refl
  decided_tick outcome.Done (Some w) d = refl
  decided_tick (outcome.Failed component part before after) (Some w) d = refl

-- ---- when all is over

pub goes_on_by : (o : Option ℕ) (b : Bool) → cond (is_some o) true b ≡ false → (o ≡ None) × (b ≡ false)
goes_on_by None b is = (refl, is)
goes_on_by (Some txid) b is = absurd (true≢false is)

pub over_by : (o : Option ℕ) (txid : ℕ) (b : Bool) → o ≡ Some txid → cond (is_some o) true b ≡ true
over_by o txid b is = ap (λ (p : Option ℕ). cond (is_some p) true b) is

pub no_stop : (b : Bool) (o : Option ℕ) → b ≡ false → o ≡ None → stop_by b o ≡ None
no_stop b o memory none = (λ i. stop_by (memory i) (none i))
