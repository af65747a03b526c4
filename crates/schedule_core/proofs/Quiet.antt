-- What the coordinator's steps do to the fates and to the batches that were committed.
use Rattle.std.proofs.Common.{◌≡◌, ℕ, zero, suc, ◌+◌, Bool, true, false, cond, List, [], ◌∷◌, ◌++◌, map, filter, Option, None, Some, refl, sym, ap, ◌∙◌, append-nil, length}
use Rattle.std.specs.Prelude.{slice_get}
use Rattle.std.specs.List.{cons_option}
use Rattle.std.proofs.lemmas.List.{map-append}
use Rattle.std.proofs.lemmas.List.Elements.{filter-append}
use Rattle.event_worlds.specs.acker_core.declared.verdict.Verdict.{Verdict}
use Rattle.event_worlds.specs.acker_core.declared.verdict.Verdict.TheVariants.{Complete, Fails}
use Rattle.event_worlds.specs.attempt_fates.declared.fates.Attempt.{Attempt}
use Rattle.event_worlds.specs.attempt_fates.declared.fates.End.{End}
use Rattle.event_worlds.specs.attempt_fates.declared.fates.End.TheVariants as end
use Rattle.event_worlds.specs.attempt_fates.Fates.{committed, committed_batches, is_committed, is_failed_commit}
use Rattle.batch_commits.specs.Standing.{failed_commits}
use Rattle.event_worlds.specs.commit_order.Offices.{AddsSome}
use Rattle.event_worlds.specs.commit_turns.declared.wait.Wait.{Wait}
use Rattle.event_worlds.specs.commit_turns.Desks.{Desk, Progress, ended_at, is_late, still, timed_of, without}
use Rattle.event_worlds.specs.commit_turns.Turns.{aborted, and_then, complete_timed, drops, end_timed, ends_with, has_no_tick, heard, in_time_at, is_closed, late_at, one_tick, passed, ticked, turned, turned_by}
use Rattle.event_engine.proofs.GoesLemmas.{outcomes-append}
use Rattle.event_worlds.specs.Worlds.{World, delivered, outcome_by, outcomes_of, turn_past, turn_step}
use Rattle.event_worlds.specs.state_parts.declared.answer.CommitOutcome.{CommitOutcome}
use Rattle.event_worlds.specs.state_parts.declared.answer.CommitOutcome.TheVariants.{Done, Failed}
use Rattle.event_worlds.specs.storm_values.declared.value.Root.{Root}
use Rattle.event_worlds.specs.topology_plan.Topology.{Topology}
use Rattle.event_worlds.specs.tree_model.declared.messages.AckMsg.{AckMsg}
use Rattle.event_worlds.specs.tree_model.declared.messages.Parcel.{Parcel}
use Rattle.event_worlds.specs.tree_model.declared.messages.Parcel.TheVariants.{ToTask, ToAcker}
use Rattle.event_worlds.specs.taken_records.Cuts.{Cut}

none_in_both : (xs ys : List Attempt) → outcomes_of xs ≡ [] → outcomes_of ys ≡ [] → outcomes_of (xs ++ ys) ≡ []
none_in_both xs ys one two = outcomes-append xs ys ∙ ap (λ (hs : List CommitOutcome). hs ++ outcomes_of ys) one ∙ two

-- where no outcome of a commit is told, none is told to have failed and none to be done
pub none_failed_of : (xs : List Attempt) → outcomes_of xs ≡ [] → failed_commits xs ≡ 0
none_failed_of [] none = refl
none_failed_of (x ∷ xs) none = at (λ told. none_failed_of xs told) x.end none
  where
    at : (outcomes_of xs ≡ [] → failed_commits xs ≡ 0) → (e : End) → cons_option (outcome_by e) (outcomes_of xs) ≡ [] → length (cond (is_failed_commit e) (x ∷ filter (λ (a : Attempt). is_failed_commit a.end) xs) (filter (λ (a : Attempt). is_failed_commit a.end) xs)) ≡ 0
    at rest (end.Committed list) told = absurd (let e : Done ∷ outcomes_of xs ≡ [] = told in cc)
    at rest (end.Failed path) told = rest told
    at rest end.TimedOut told = rest told
    at rest (end.Coincided list) told = rest told
    at rest (end.CommitFailed component part before after) told = absurd (let e : Failed component part before after ∷ outcomes_of xs ≡ [] = told in cc)
    at rest (end.Dropped by) told = rest told

pub none_done_of : (xs : List Attempt) → outcomes_of xs ≡ [] → committed xs ≡ []
none_done_of [] none = refl
none_done_of (x ∷ xs) none = at (λ told. none_done_of xs told) x.end none
  where
    at : (outcomes_of xs ≡ [] → committed xs ≡ []) → (e : End) → cons_option (outcome_by e) (outcomes_of xs) ≡ [] → cond (is_committed e) (x ∷ committed xs) (committed xs) ≡ []
    at rest (end.Committed list) told = absurd (let e : Done ∷ outcomes_of xs ≡ [] = told in cc)
    at rest (end.Failed path) told = rest told
    at rest end.TimedOut told = rest told
    at rest (end.Coincided list) told = rest told
    at rest (end.CommitFailed component part before after) told = absurd (let e : Failed component part before after ∷ outcomes_of xs ≡ [] = told in cc)
    at rest (end.Dropped by) told = rest told

-- the batches of attempts that follow others
pub batches_append : (xs ys : List Attempt) → committed_batches (xs ++ ys) ≡ committed_batches xs ++ committed_batches ys
batches_append xs ys =
    ap (λ (zs : List Attempt). map (λ (a : Attempt). a.spans) zs) (filter-append (λ (a : Attempt). is_committed a.end) xs ys)
    ∙ map-append (λ (a : Attempt). a.spans) (committed xs) (committed ys)

pub none_batches : (xs : List Attempt) → outcomes_of xs ≡ [] → committed_batches xs ≡ []
none_batches xs none = ap (λ (zs : List Attempt). map (λ (a : Attempt). a.spans) zs) (none_done_of xs none)

-- attempts that tell of no commit add no batch
pub batches_quiet : (fates more all : List Attempt) → all ≡ fates ++ more → outcomes_of more ≡ [] → committed_batches all ≡ committed_batches fates
batches_quiet fates more all added none =
    ap committed_batches added ∙ batches_append fates more ∙ ap (λ bs. committed_batches fates ++ bs) (none_batches more none) ∙ append-nil (committed_batches fates)

-- the first of attempts that tell of no commit tell of none
pub first_none : (xs ys : List CommitOutcome) → xs ++ ys ≡ [] → xs ≡ []
first_none [] ys none = refl
first_none (x ∷ xs) ys none = absurd (let e : x ∷ (xs ++ ys) ≡ [] = none in cc)

pub some_none : (ended old new : List Attempt) → outcomes_of ended ≡ [] → (some : AddsSome ended old new) → outcomes_of some.done ≡ []
some_none ended old new none some =
    first_none (outcomes_of some.done) (outcomes_of some.rest)
    (sym (outcomes-append some.done some.rest) ∙ sym (ap outcomes_of some.are_first) ∙ none)

none_late : (tick : ℕ) (ws : List Wait) → outcomes_of (map (ended_at tick end.TimedOut) ws) ≡ []
none_late tick [] = refl
none_late tick (w ∷ ws) = none_late tick ws

none_dropped : (tick : ℕ) (by : Root) (ws : List Wait) → outcomes_of (map (ended_at tick (end.Dropped by)) ws) ≡ []
none_dropped tick by [] = refl
none_dropped tick by (w ∷ ws) = none_dropped tick by ws

module _ (t : Topology) (cut : Cut) where
  -- those that are dropped with one that aborted tell of no commit
  pub none_of_drops : (tick : ℕ) (first : Root) (ws : List Wait) → outcomes_of (drops t cut tick first ws) ≡ []
  none_of_drops tick first ws = none_dropped tick first (filter (ends_with t cut first) ws)

  -- none of those that abort, and then none of those that are dropped with them
  none_aborted : (xs : List Attempt) (d : Desk) → outcomes_of xs ≡ [] → outcomes_of (aborted t cut xs d).ended ≡ []
  none_aborted [] d none = refl
  none_aborted (x ∷ xs) d none = none_in_both (x ∷ xs) (drops t cut d.tick x.root d.pending) none (none_of_drops d.tick x.root d.pending)

  none_ticked : (n : ℕ) (d : Desk) → outcomes_of (ticked t cut n d).ended ≡ []
  none_ticked zero d = refl
  none_ticked (suc n) d = at (has_no_tick t cut d) (none_ticked n (one_tick t cut d).desk)
    where
      at : (b : Bool) → outcomes_of (ticked t cut n (one_tick t cut d).desk).ended ≡ [] → outcomes_of (cond b (still d) (and_then t cut (one_tick t cut d) (ticked t cut n (one_tick t cut d).desk))).ended ≡ []
      at true rest = refl
      at false rest =
          none_in_both (one_tick t cut d).ended (ticked t cut n (one_tick t cut d).desk).ended
          (none_aborted (late_at t cut (d.tick + 1) d.pending)
          (record d { tick = d.tick + 1; pending = in_time_at t cut (d.tick + 1) d.pending })
          (none_late (d.tick + 1) (filter (is_late t.buckets (d.tick + 1)) d.pending))) rest

  none_completed : (list : List AckMsg) (closed : Bool) (o : Option Wait) (d : Desk) → outcomes_of (complete_timed t cut list closed o d).ended ≡ []
  none_completed list closed None d = refl
  none_completed list true (Some w) d = refl
  none_completed list false (Some w) d = none_aborted (ended_at d.tick (end.Coincided list) w ∷ []) (record d { pending = without w.root d.pending }) refl

  none_failed : (path : List ℕ) (o : Option Wait) (d : Desk) → outcomes_of (end_timed t cut (end.Failed path) o d).ended ≡ []
  none_failed path None d = refl
  none_failed path (Some w) d = none_aborted (ended_at d.tick (end.Failed path) w ∷ []) (record d { pending = without w.root d.pending }) refl

  none_heard : (verdict : Option Verdict) (d : Desk) → outcomes_of (heard t cut verdict d).ended ≡ []
  none_heard None d = refl
  none_heard (Some (Complete root list)) d = none_completed list (is_closed list) (timed_of root d.pending) d
  none_heard (Some (Fails root path)) d = none_failed path (timed_of root d.pending) d

  none_turned_by : (shut : ℕ) (o : Option ℕ) (p : Progress) → outcomes_of p.ended ≡ [] → outcomes_of (turned_by t cut shut o p).ended ≡ []
  none_turned_by shut None p none = none
  none_turned_by shut (Some txid) p none = none

  -- the attempts that end in a turn tell of no commit
  pub none_turned : (verdict : Option Verdict) (ticks shut : ℕ) (d : Desk) → outcomes_of (turned t cut verdict ticks shut d).ended ≡ []
  none_turned verdict ticks shut d =
      let first = heard t cut verdict d in
      none_turned_by shut (passed t cut ticks first).desk.exhausted (passed t cut ticks first)
      (none_in_both first.ended (ticked t cut ticks first.desk).ended (none_heard verdict d) (none_ticked ticks first.desk))

  -- the attempts that were added ended in a turn, if any were, and tell of no commit
  pub record IsQuiet (w v : World) : Type 0 where
    pub more : List Attempt
    pub added : v.fates ≡ w.fates ++ more
    pub quiet : outcomes_of more ≡ []

  quiet_still : (w v : World) → v.fates ≡ w.fates → IsQuiet w v
  quiet_still w v fates = record {
    more = [];
    added = fates ∙ sym (append-nil w.fates);
    quiet = refl;
  }

  quiet_parcel : (w v : World) (parcel : Parcel) → v.fates ≡ w.fates → IsQuiet w (delivered t parcel v)
  quiet_parcel w v (ToTask n tuple) fates = quiet_still w _ fates
  quiet_parcel w v (ToAcker n m) fates = quiet_still w _ fates

  quiet_past : (ids : List ℕ) (w : World) (orders : List Parcel) → IsQuiet w (turn_past t cut ids w orders)
  quiet_past ids w (parcel ∷ rest) = quiet_parcel w (record w { orders = rest }) parcel refl
  quiet_past ids w [] = record {
    more = (turned t cut (slice_get w.verdicts 0) w.unheard w.shut w.desk).ended;
    added = refl;
    quiet = none_turned (slice_get w.verdicts 0) w.unheard w.shut w.desk;
  }

  pub quiet_turn : (ids : List ℕ) (w : World) → IsQuiet w (turn_step t cut ids w)
  quiet_turn ids w = quiet_past ids w w.orders

  pub quiet_nothing : (w v : World) → v ≡ w → IsQuiet w v
  quiet_nothing w v same = quiet_still w v (ap (λ (x : World). x.fates) same)

  pub quiet_same : (w v x : World) → v ≡ x → IsQuiet w x → IsQuiet w v
  quiet_same w v x same quiet = record {
    more = quiet.more;
    added = ap (λ (y : World). y.fates) same ∙ quiet.added;
    quiet = quiet.quiet;
  }
