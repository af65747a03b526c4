-- The ticks that the coordinator counts.
use Rattle.std.proofs.Common.{◌≡◌, ◌≤◌, ℕ, zero, suc, ◌+◌, ◌-◌, ◌^◌, ◌==◌, Bool, true, false, cond, List, [], ◌∷◌, Option, None, Some, ◌++◌, refl, sym, subst, ◌∙◌, eq-eqb, true≢false, arith}
use Rattle.std.specs.Prelude.{is_some}
use Rattle.commit_order.specs.acker_core.declared.verdict.Verdict.{Verdict}
use Rattle.commit_order.specs.acker_core.declared.verdict.Verdict.TheVariants.{Complete, Fails}
use Rattle.commit_order.specs.attempt_fates.declared.fates.Attempt.{Attempt}
use Rattle.commit_order.specs.attempt_fates.declared.fates.End.TheVariants as end
use Rattle.commit_order.specs.commit_turns.declared.wait.Wait.{Wait}
use Rattle.commit_order.specs.commit_turns.Desks.{Desk, still, timed_of}
use Rattle.commit_order.specs.commit_turns.Turns.{aborted, begun, complete_timed, decided, decided_by, end_timed, fill_more, filled, has_no_tick, heard, is_closed, last_tick, next_to_commit, one_tick, ordered, passed, ticked, turned, turned_by, next_wait}
use Rattle.event_worlds.specs.Worlds.{ended}
use Rattle.commit_order.specs.state_parts.declared.answer.CommitOutcome.{CommitOutcome}
use Rattle.commit_order.specs.state_parts.declared.answer.CommitOutcome.TheVariants.{Done, Failed}
use Rattle.commit_order.specs.topology_plan.Topology.{Topology}
use Rattle.commit_order.specs.taken_records.Cuts.{Cut}

not_last : (o tick : Bool) → cond o true tick ≡ false → tick ≡ false
not_last true tick is = absurd (true≢false is)
not_last false tick is = is

module _ (t : Topology) (cut : Cut) where
  -- a verdict counts no tick
  heard-tick : (verdict : Option Verdict) (d : Desk) → (heard t cut verdict d).desk.tick ≡ d.tick
  heard-tick None d = refl
  heard-tick (Some (Complete root list)) d = by (is_closed list) (timed_of root d.pending)
    where
      by : (c : Bool) (o : Option Wait) → (complete_timed t cut list c o d).desk.tick ≡ d.tick
      by c None = refl
      by true (Some w) = refl
      by false (Some w) = refl
  heard-tick (Some (Fails root path)) d = by (timed_of root d.pending)
    where
      by : (o : Option Wait) → (end_timed t cut (end.Failed path) o d).desk.tick ≡ d.tick
      by None = refl
      by (Some w) = refl

  -- nor does an attempt that aborts
  aborted-tick : (xs : List Attempt) (d : Desk) → (aborted t cut xs d).desk.tick ≡ d.tick
  aborted-tick [] d = refl
  aborted-tick (x ∷ xs) d = refl

  one_more : (d : Desk) → (one_tick t cut d).desk.tick ≡ d.tick + 1
  one_more d = aborted-tick _ _

  -- as many ticks are counted as were not heard of at most
  ticked-tick : (bound : ℕ) → bound ≤ 2 ^ 64 - 1 → (n : ℕ) (d : Desk) → d.tick ≤ bound → ended (d.tick + n) ≤ bound → (ticked t cut n d).desk.tick ≤ bound
  ticked-tick bound last zero d below more = below
  ticked-tick bound last (suc n) d below more =
      by (has_no_tick t cut d) refl
      (λ low high. ticked-tick bound last n (one_tick t cut d).desk (subst (λ (k : ℕ). k ≤ bound) (sym (one_more d)) low)
      (subst (λ (k : ℕ). ended (k + n) ≤ bound) (sym (one_more d)) high))
    where
      by : (b : Bool) → has_no_tick t cut d ≡ b
          → (d.tick + 1 ≤ bound → ended ((d.tick + 1) + n) ≤ bound → (ticked t cut n (one_tick t cut d).desk).desk.tick ≤ bound)
          → (cond b (still d) (record { desk = (ticked t cut n (one_tick t cut d).desk).desk; ended = (one_tick t cut d).ended ++ (ticked t cut n (one_tick t cut d).desk).ended })).desk.tick ≤ bound
      by true stays later = below
      by false goes later = later (low (d.tick == last_tick) refl (not_last (is_some d.exhausted) (d.tick == last_tick) goes)) (omega arith)
        where
          low : (b : Bool) → (d.tick == last_tick) ≡ b → b ≡ false → d.tick + 1 ≤ bound
          low true is no_last = absurd (true≢false no_last)
          low false is no_last = let other : d.tick ≡ last_tick → ⊥ = (λ same. true≢false (sym (eq-eqb d.tick last_tick same) ∙ is)) in omega (arith, other)

  filled-tick : (shut places : ℕ) (d : Desk) → (filled t cut shut places d).desk.tick ≡ d.tick
  filled-tick shut zero d = refl
  filled-tick shut (suc places) d = by (next_wait t cut shut d) (λ w. filled-tick shut places (begun t cut w d))
    where
      by : (o : Option Wait) → ((w : Wait) → (filled t cut shut places (begun t cut w d)).desk.tick ≡ d.tick)
          → (fill_more t cut (filled t cut shut places) d o).desk.tick ≡ d.tick
      by None later = refl
      by (Some root) later = later root

  pub turned-tick : (bound : ℕ) → bound ≤ 2 ^ 64 - 1 → (verdict : Option Verdict) (n shut : ℕ) (d : Desk) → d.tick ≤ bound → ended (d.tick + n) ≤ bound
      → (turned t cut verdict n shut d).desk.tick ≤ bound
  turned-tick bound last verdict n shut d below more = by (passed t cut n (heard t cut verdict d)).desk.exhausted
    where
      after : (passed t cut n (heard t cut verdict d)).desk.tick ≤ bound
      after = let e = heard-tick verdict d in ticked-tick bound last n (heard t cut verdict d).desk (omega arith) (omega arith)

      by : (o : Option ℕ) → (turned_by t cut shut o (passed t cut n (heard t cut verdict d))).desk.tick ≤ bound
      by (Some txid) = after
      by None = let e = filled-tick shut t.pending (ordered t cut (passed t cut n (heard t cut verdict d)).desk) in omega (arith, after)

  pub decided-tick : (how : CommitOutcome) (d : Desk) → (decided t cut how d).desk.tick ≡ d.tick
  decided-tick how d = by how (next_to_commit t cut d)
    where
      by : (how : CommitOutcome) (o : Option Wait) → (decided_by t cut how o d).desk.tick ≡ d.tick
      by how None = refl
      by Done (Some w) = refl
      by (Failed component part first last) (Some w) = refl
