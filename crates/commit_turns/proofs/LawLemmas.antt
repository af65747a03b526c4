-- What the laws say of the account.
use Rattle.std.proofs.Common.{◌≡◌, ℕ, ◌+◌, ◌≤◌, Bool, true, false, cond, Option, None, Some, List, [], ◌∷◌, ◌++◌, sym, ap, subst, ◌∙◌, arith}
use Rattle.std.specs.Option.{option_to_list}
use Rattle.std.proofs.lemmas.List.{append-nil, map-append}
use Rattle.tuple_account.specs.acker_core.declared.verdict.Verdict.{Verdict}
use Rattle.tuple_account.specs.acker_core.declared.verdict.Verdict.TheVariants.{Complete, Fails}
use Rattle.attempt_fates.specs.declared.fates.Attempt.{Attempt}
use Rattle.attempt_fates.specs.declared.fates.End.{End}
use Rattle.attempt_fates.specs.declared.fates.End.TheVariants as end
use Rattle.commit_turns.specs.declared.wait.Wait.{Wait}
use Rattle.tuple_account.specs.counted_items.Weights.{weigh}
use Rattle.tuple_account.proofs.counted_items.Weighing.{weigh-append, weigh-map}
use Rattle.tuple_account.specs.storm_values.declared.value.Root.{Root}
use Rattle.tuple_account.specs.topology_plan.Topology.{Topology}
use Rattle.tuple_account.specs.topology_plan.Valid.{IsValid}
use Rattle.taken_records.specs.Cuts.{Cut, IsStart}
use Rattle.tuple_account.proofs.Beginning.{fits_first}
use Rattle.tuple_account.specs.Fits.{Fits, is_tried}
use Rattle.tuple_account.specs.Histories.{History, Opening, joined, nothing, opens}
use Rattle.tuple_account.specs.Sound.{is_about}
use Rattle.state_parts.specs.declared.answer.CommitOutcome.{CommitOutcome}
use Rattle.commit_turns.specs.Account.{desk_of, ends_of}
use Rattle.commit_turns.specs.Desks.{Desk, ended_at, first_desk, timed_of, without}
use Rattle.replay_pending.specs.InFlight.{tried}
use Rattle.replay_pending.specs.declared.attempts.Tried.{Tried}
use Rattle.commit_turns.specs.Kept.{IsKept}
use Rattle.commit_turns.specs.Outcomes.{Begin, IsOutcome, hears, roots_begun}
use Rattle.commit_turns.specs.Turns.{aborted, begun, complete_timed, counted, decided, end_timed, heard, in_time_at, is_closed, late_at, next_wait, ordered, turned}
use Rattle.commit_turns.proofs.Accounting.{HasBooks, begun_counted, begun_push, decide_books, turn_books}
use Rattle.commit_turns.proofs.Beginning.{next_wait_is}
use Rattle.commit_turns.proofs.Booking.{IsNumbered, is_root, numbered_begun, numbered_same}
use Rattle.commit_turns.proofs.Fitting.{books_of, fits_of, roots_of}
use Rattle.commit_turns.proofs.Going.{IsGoing}
use Rattle.commit_turns.proofs.Keeping.{going}
use Rattle.commit_turns.proofs.Passing.{all_begun, all_turned}
use Rattle.commit_turns.proofs.Stepping.{going_out}
use Rattle.replay_pending.proofs.Counting.{tried-empty}
use Rattle.commit_turns.proofs.Ticking.{going_tick, no_stop}
use Rattle.commit_turns.proofs.Turning.{begins, going_decided, going_heard}

pub first_account : (t : Topology) (cut : Cut) → Fits t (desk_of cut (first_desk cut)) (ends_of []) nothing
first_account t cut =
    subst (λ (tries : ℕ → ℕ). Fits t (record { tick = 0; start = cut.start; committed = cut.start; tries = tries; pending = [] }) [] nothing)
    (λ i txid. ap (λ (x : Tried). x.begun) (sym (tried-empty txid)) i)
    (fits_first t cut.start)

module _ (t : Topology) (cut : Cut) (d : Desk) (fates : List Attempt) (valid : IsValid t) (start : IsStart cut) (none : d.exhausted ≡ None) (kept : IsKept t cut d fates)
    (h : History) (fits : Fits t (desk_of cut d) (ends_of fates) h) where
  pub outcome_fits : (how : CommitOutcome) → IsOutcome t how → Fits t (desk_of cut (decided t cut how d).desk) (ends_of (fates ++ (decided t cut how d).ended)) h
  outcome_fits how is =
      fits_of t cut (decided t cut how d).desk (fates ++ (decided t cut how d).ended) h (going_decided t cut d fates (going t cut d fates kept) none how)
      (decide_books t cut d fates (going t cut d fates kept) none (roots_of h.begun) h.heard (books_of t cut d fates h fits) how is)

  module _ (verdict : Option Verdict) (ticks shut : ℕ) (openings : List Opening) (begin : Begin openings (turned t cut verdict ticks shut d).begun) where
    new_roots : roots_of h.begun ++ roots_begun (turned t cut verdict ticks shut d).begun ≡ roots_of (h.begun ++ openings)
    new_roots = ap (λ (rs : List Root). roots_of h.begun ++ rs) (sym begin) ∙ sym (map-append (λ (o : Opening). o.begun.root) h.begun openings)

    module _ (quiet : (root : Root) → weigh (is_about root) (h.heard ++ option_to_list verdict) ≤ weigh (opens root) h.begun) where
      few : (root : Root) → weigh (is_about root) (h.heard ++ option_to_list verdict) ≤ weigh (is_root root) (roots_of h.begun)
      few root =
          subst (λ (n : ℕ). weigh (is_about root) (h.heard ++ option_to_list verdict) ≤ n) (sym (weigh-map (is_root root) (λ (o : Opening). o.begun.root) h.begun)) (quiet root)

      pub turn_fits : Fits t (desk_of cut (turned t cut verdict ticks shut d).desk) (ends_of (fates ++ (turned t cut verdict ticks shut d).ended)) (joined h (hears verdict openings))
      turn_fits =
          let both = turn_books t cut valid start d fates none (going t cut d fates kept) (roots_of h.begun) h.heard (books_of t cut d fates h fits) verdict ticks shut few in
          fits_of t cut (turned t cut verdict ticks shut d).desk (fates ++ (turned t cut verdict ticks shut d).ended) (joined h (hears verdict openings)) both.0
          (subst (λ (rs : List Root). HasBooks t cut (turned t cut verdict ticks shut d).desk (fates ++ (turned t cut verdict ticks shut d).ended) rs (h.heard ++ option_to_list verdict)) new_roots both.1)

  -- ---- no root begins twice

  record IsFilling (shut : ℕ) (ended : List Attempt) (e : Desk) (new : List Wait) : Type 0 where
    still : IsGoing t cut e ended
    none_out : e.exhausted ≡ None
    numbered : IsNumbered e.tries (roots_of h.begun ++ roots_begun new)

  one_begins : (shut : ℕ) (ended : List Attempt) (e : Desk) (new : List Wait) (w : Wait) → next_wait t cut shut e ≡ Some w → IsFilling shut ended e new
      → IsFilling shut ended (begun t cut w e) (new ++ w ∷ [])
  one_begins shut ended e new w some filling =
      let both = begins t cut valid start shut ended e new w some (filling.still, filling.none_out) in
      record {
        still = both.0;
        none_out = both.1;
        numbered = subst (IsNumbered (begun t cut w e).tries) (begun_push (roots_of h.begun) new w)
            (numbered_begun e.tries w.root (next_wait_is t cut e filling.still.holds.one shut w some).root.number (roots_of h.begun ++ roots_begun new) filling.numbered);
      }

  -- an end begins nothing
  aborted_numbered : (xs : List Attempt) (e : Desk) → IsNumbered e.tries (roots_of h.begun) → IsNumbered (aborted t cut xs e).desk.tries (roots_of h.begun)
  aborted_numbered [] e numbered = numbered
  aborted_numbered (x ∷ xs) e numbered = numbered_same e.tries (counted t cut (x ∷ xs) e.tries) (begun_counted t cut (x ∷ xs) e.tries) (roots_of h.begun) numbered

  ended_numbered : (how : End) (o : Option Wait) → IsNumbered d.tries (roots_of h.begun) → IsNumbered (end_timed t cut how o d).desk.tries (roots_of h.begun)
  ended_numbered how None numbered = numbered
  ended_numbered how (Some w) numbered = aborted_numbered (ended_at d.tick how w ∷ []) (record d { pending = without w.root d.pending }) numbered

  heard_numbered : (verdict : Option Verdict) → IsNumbered d.tries (roots_of h.begun) → IsNumbered (heard t cut verdict d).desk.tries (roots_of h.begun)
  heard_numbered None numbered = numbered
  heard_numbered (Some (Complete root list)) numbered = by (is_closed list) (timed_of root d.pending)
    where
      by : (c : Bool) (o : Option Wait) → IsNumbered (complete_timed t cut list c o d).desk.tries (roots_of h.begun)
      by c None = numbered
      by true (Some w) = numbered
      by false (Some w) = ended_numbered (end.Coincided list) (Some w) numbered
  heard_numbered (Some (Fails root path)) numbered = ended_numbered (end.Failed path) (timed_of root d.pending) numbered

  new_numbered : (verdict : Option Verdict) (ticks shut : ℕ) → IsNumbered (turned t cut verdict ticks shut d).desk.tries (roots_of h.begun ++ roots_begun (turned t cut verdict ticks shut d).begun)
  new_numbered verdict ticks shut =
      all_turned t cut verdict ticks shut d fates
      (λ e ended. IsGoing t cut e ended × IsNumbered e.tries (roots_of h.begun)) (λ e ended new. IsNumbered e.tries (roots_of h.begun ++ roots_begun new))
      (going_heard t cut d fates (going t cut d fates kept) none verdict, heard_numbered verdict (books_of t cut d fates h fits).numbered)
      (λ e ended goes both. (
        going_tick t cut e ended both.0 (no_stop t cut e goes),
        aborted_numbered (late_at t cut (e.tick + 1) e.pending) (record e { tick = e.tick + 1; pending = in_time_at t cut (e.tick + 1) e.pending }) both.1,
      ))
      (λ e ended txid is both. subst (IsNumbered e.tries) (sym (append-nil (roots_of h.begun))) both.1)
      (λ e ended still_none both. (all_begun t cut shut (IsFilling shut ended) (one_begins shut ended) t.pending (ordered t cut e) []
      (record {
        still = going_out t cut e ended (ordered t cut e).out both.0;
        none_out = still_none;
        numbered = subst (IsNumbered e.tries) (sym (append-nil (roots_of h.begun))) both.1;
      })).numbered)

  pub turn_roots : (verdict : Option Verdict) (ticks shut : ℕ) (openings : List Opening) → Begin openings (turned t cut verdict ticks shut d).begun
      → (root : Root) → weigh (opens root) h.begun + weigh (opens root) openings ≤ 1
  turn_roots verdict ticks shut openings begin root =
      let n = new_numbered verdict ticks shut root in
      let r = ap (weigh (is_root root)) (new_roots verdict ticks shut openings begin) in
      let m = weigh-map (is_root root) (λ (o : Opening). o.begun.root) (h.begun ++ openings) in
      let a = weigh-append (opens root) h.begun openings in
      let b = few_one (is_tried (λ txid. (tried txid (turned t cut verdict ticks shut d).desk.tries).begun) root) in omega arith
    where
      few_one : (c : Bool) → cond {A = ℕ} c 1 0 ≤ 1
      few_one true = omega arith
      few_one false = omega arith
