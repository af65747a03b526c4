-- What each step of ticks and of filling keeps, whatever it is, the whole of them keeps.
use Rattle.std.proofs.Common.{◌≡◌, ℕ, zero, suc, Bool, true, false, cond, Option, None, Some, List, [], ◌∷◌, ◌++◌, refl, sym, subst}
use Rattle.std.proofs.lemmas.List.{append-nil, append_assoc}
use Rattle.tuple_account.specs.acker_core.declared.verdict.Verdict.{Verdict}
use Rattle.tuple_account.specs.topology_plan.Topology.{Topology}
use Rattle.commit_turns.specs.declared.wait.Wait.{Wait}
use Rattle.taken_records.specs.Cuts.{Cut}
use Rattle.attempt_fates.specs.declared.fates.Attempt.{Attempt}
use Rattle.commit_turns.specs.Desks.{Desk, still}
use Rattle.commit_turns.specs.Turns.{begun, fill_more, filled, has_no_tick, heard, one_tick, ordered, passed, ticked, turned, turned_by, next_wait}

module _ (t : Topology) (cut : Cut) where
  -- ---- ticks

  module _ (P : Desk → List Attempt → Type 0) (step : (d : Desk) (fates : List Attempt) → has_no_tick t cut d ≡ false → P d fates → P (one_tick t cut d).desk (fates ++ (one_tick t cut d).ended)) where
    pub all_ticks : (n : ℕ) (d : Desk) (fates : List Attempt) → P d fates → P (ticked t cut n d).desk (fates ++ (ticked t cut n d).ended)
    all_ticks zero d fates p = subst (P d) (sym (append-nil fates)) p
    all_ticks (suc n) d fates p = by (has_no_tick t cut d) refl (λ q. all_ticks n (one_tick t cut d).desk (fates ++ (one_tick t cut d).ended) q)
      where
        by : (b : Bool) → has_no_tick t cut d ≡ b
            → (P (one_tick t cut d).desk (fates ++ (one_tick t cut d).ended)
            → P (ticked t cut n (one_tick t cut d).desk).desk ((fates ++ (one_tick t cut d).ended) ++ (ticked t cut n (one_tick t cut d).desk).ended))
            → P (cond b (still d) (record { desk = (ticked t cut n (one_tick t cut d).desk).desk; ended = (one_tick t cut d).ended ++ (ticked t cut n (one_tick t cut d).desk).ended })).desk
            (fates ++ (cond b (still d) (record { desk = (ticked t cut n (one_tick t cut d).desk).desk; ended = (one_tick t cut d).ended ++ (ticked t cut n (one_tick t cut d).desk).ended })).ended)
        by true stays later = subst (P d) (sym (append-nil fates)) p
        by false goes later =
            subst (P (ticked t cut n (one_tick t cut d).desk).desk) (append_assoc fates (one_tick t cut d).ended (ticked t cut n (one_tick t cut d).desk).ended) (later (step d fates goes p))

  -- ---- attempts that begin

  module _ (shut : ℕ) (P : Desk → List Wait → Type 0) (step : (d : Desk) (new : List Wait) (w : Wait) → next_wait t cut shut d ≡ Some w → P d new → P (begun t cut w d) (new ++ w ∷ [])) where
    pub all_begun : (places : ℕ) (d : Desk) (new : List Wait) → P d new → P (filled t cut shut places d).desk (new ++ (filled t cut shut places d).begun)
    all_begun zero d new p = subst (P d) (sym (append-nil new)) p
    all_begun (suc places) d new p = by (next_wait t cut shut d) refl (λ w q. all_begun places (begun t cut w d) (new ++ w ∷ []) q)
      where
        by : (o : Option Wait) → next_wait t cut shut d ≡ o
            → ((w : Wait) → P (begun t cut w d) (new ++ w ∷ []) → P (filled t cut shut places (begun t cut w d)).desk ((new ++ w ∷ []) ++ (filled t cut shut places (begun t cut w d)).begun))
            → P (fill_more t cut (filled t cut shut places) d o).desk (new ++ (fill_more t cut (filled t cut shut places) d o).begun)
        by None none later = subst (P d) (sym (append-nil new)) p
        by (Some w) some later =
            subst (P (filled t cut shut places (begun t cut w d)).desk) (append_assoc new (w ∷ []) (filled t cut shut places (begun t cut w d)).begun) (later w (step d new w some p))

  -- ---- a turn

  module _ (verdict : Option Verdict) (ticks shut : ℕ) (d : Desk) (fates : List Attempt) (P : Desk → List Attempt → Type 0) (Q : Desk → List Attempt → List Wait → Type 0)
      (hear : P (heard t cut verdict d).desk (fates ++ (heard t cut verdict d).ended))
      (step : (e : Desk) (ended : List Attempt) → has_no_tick t cut e ≡ false → P e ended → P (one_tick t cut e).desk (ended ++ (one_tick t cut e).ended))
      (stop : (e : Desk) (ended : List Attempt) (txid : ℕ) → e.exhausted ≡ Some txid → P e ended → Q e ended [])
      (fill : (e : Desk) (ended : List Attempt) → e.exhausted ≡ None → P e ended → Q (filled t cut shut t.pending (ordered t cut e)).desk ended (filled t cut shut t.pending (ordered t cut e)).begun) where
    after_ticks : P (passed t cut ticks (heard t cut verdict d)).desk (fates ++ (passed t cut ticks (heard t cut verdict d)).ended)
    after_ticks =
        subst (P (passed t cut ticks (heard t cut verdict d)).desk) (append_assoc fates (heard t cut verdict d).ended (ticked t cut ticks (heard t cut verdict d).desk).ended)
        (all_ticks P step ticks (heard t cut verdict d).desk (fates ++ (heard t cut verdict d).ended) hear)

    pub all_turned : Q (turned t cut verdict ticks shut d).desk (fates ++ (turned t cut verdict ticks shut d).ended) (turned t cut verdict ticks shut d).begun
    all_turned = by (passed t cut ticks (heard t cut verdict d)).desk.exhausted refl
      where
        by : (o : Option ℕ) → (passed t cut ticks (heard t cut verdict d)).desk.exhausted ≡ o
            → Q (turned_by t cut shut o (passed t cut ticks (heard t cut verdict d))).desk (fates ++ (turned_by t cut shut o (passed t cut ticks (heard t cut verdict d))).ended)
            (turned_by t cut shut o (passed t cut ticks (heard t cut verdict d))).begun
        by (Some txid) is = stop (passed t cut ticks (heard t cut verdict d)).desk (fates ++ (passed t cut ticks (heard t cut verdict d)).ended) txid is after_ticks
        by None is = fill (passed t cut ticks (heard t cut verdict d)).desk (fates ++ (passed t cut ticks (heard t cut verdict d)).ended) is after_ticks
