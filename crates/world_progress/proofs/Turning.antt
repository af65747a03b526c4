-- What a turn of the coordinator and the outcome of a commit add to what was done.
use Rattle.std.proofs.Common.{inl, inr, eq-eqb, true≢false, ◌≡◌, ◌<◌, ℕ, zero, suc, ◌+◌, ◌==◌, ◌&&◌, Bool, true, false, cond, List, [], ◌∷◌, ◌++◌, length, filter, slice_get, Option, None, Some, refl, sym, ap, ◌∙◌, subst, arith}
use Rattle.std.specs.Prelude.{is_some}
use Rattle.std.specs.List.{AllByRecursion, find}
use Rattle.std.specs.Option.{option_and_then, option_to_list}
use Rattle.std.proofs.lemmas.Bool.{and_right, cases_eq}
use Rattle.event_worlds.specs.acker_core.declared.verdict.Verdict.{Verdict}
use Rattle.event_worlds.specs.acker_core.declared.verdict.Verdict.TheVariants.{Complete, Fails}
use Rattle.event_worlds.specs.attempt_fates.declared.fates.Attempt.{Attempt}
use Rattle.event_worlds.specs.attempt_fates.declared.fates.End.TheVariants as end
use Rattle.event_worlds.specs.commit_order.Orders.{Stand}
use Rattle.event_worlds.specs.commit_turns.declared.wait.Wait.{Wait}
use Rattle.event_worlds.specs.commit_turns.Desks.{Desk, Progress, ended_at, is_late, still, timed_of, without}
use Rattle.event_worlds.specs.commit_turns.Outcomes.{hears}
use Rattle.event_worlds.specs.commit_turns.Turns.{Filled, Turned, aborted, and_then, begun, complete_timed, decided, decided_by, end_timed, fill_more, filled, has_no_tick, heard, is_closed, drops, ends_with, in_time_at, late_at, next_root, next_to_commit, one_tick, ordered, ordered_and_filled, passed, ticked, turned, turned_by, fresh, next_wait}
use Rattle.event_worlds.proofs.counted_items.Each.{each-any, each-append, each-to_map}
use Rattle.event_worlds.specs.Added.{placed, turn_adds, turn_adds_past}
use Rattle.event_worlds.specs.Orderly.{FitsParcel, IsOrderly}
use Rattle.event_worlds.specs.Worlds.{World, delivered, opened, outcome_step, turn_past, turn_step, turned_in, with_progress, with_turn}
use Rattle.event_worlds.specs.state_parts.declared.answer.CommitOutcome.TheVariants as outcome
use Rattle.event_worlds.specs.storm_values.declared.value.Root.{Root}
use Rattle.event_worlds.specs.topology_plan.Topology.{Topology}
use Rattle.event_worlds.specs.tree_model.declared.messages.Parcel.{Parcel}
use Rattle.event_worlds.specs.record_offers.Offers.{batch_numbers, first_free, offered}
use Rattle.event_worlds.specs.taken_records.Cuts.{Cut, offers_of}
use Rattle.event_worlds.specs.taken_records.Taken.{runs_of}
use Rattle.event_worlds.specs.tuple_account.Histories.{History, joined, nothing}
use Rattle.world_progress.specs.Doing.{done}
use Rattle.world_progress.specs.Lasting.{IsFine}
use Rattle.world_progress.proofs.Doing.{Stepped, rose, kept, in_boxes-delivered, committed-delivered, taken-joined, begun-joined}
use Rattle.world_progress.proofs.Lists.{length-front}

some_none : {X : Type 0} (x : X) → Some x ≡ None → ⊥
some_none x e = cc

find_push : {X : Type 0} (test : X → Bool) (xs : List X) (x : X) → test x ≡ false → find test (xs ++ x ∷ []) ≡ find test xs
find_push test [] x off = ap (λ (b : Bool). cond b (Some x) None) off
find_push test (y ∷ xs) x off = ap (cond (test y) (Some y)) (find_push test xs x off)

module _ (t : Topology) (cut : Cut) where
  -- ---- what a turn leaves

  record IsPlain (count : ℕ) (e : Desk) (ended : List Attempt) : Type 0 where
    same : e.committed ≡ count
    fine : AllByRecursion IsFine ended

  -- attempts that are dropped with others are no commits that failed
  pub drops_fine : (tick : ℕ) (first : Root) (ws : List Wait) → AllByRecursion IsFine (drops t cut tick first ws)
  drops_fine tick first ws =
      each-to_map IsFine (ended_at tick (end.Dropped first)) (filter (ends_with t cut first) ws)
      (each-any (λ (w : Wait). IsFine (ended_at tick (end.Dropped first) w)) (λ w. refl) (filter (ends_with t cut first) ws))

  aborted_plain : (xs : List Attempt) (d : Desk) → AllByRecursion IsFine xs → IsPlain d.committed (aborted t cut xs d).desk (aborted t cut xs d).ended
  aborted_plain [] d all = record { same = refl; fine = tt }
  aborted_plain (x ∷ xs) d all = record {
    same = refl;
    fine = each-append IsFine (x ∷ xs) (drops t cut d.tick x.root d.pending) all
        (drops_fine d.tick x.root d.pending);
  }

  heard_plain : (verdict : Option Verdict) (d : Desk) → IsPlain d.committed (heard t cut verdict d).desk (heard t cut verdict d).ended
  heard_plain None d = record { same = refl; fine = tt }
  heard_plain (Some (Complete root list)) d = by (is_closed list) (timed_of root d.pending)
    where
      by : (c : Bool) (o : Option Wait) → IsPlain d.committed (complete_timed t cut list c o d).desk (complete_timed t cut list c o d).ended
      by c None = record { same = refl; fine = tt }
      by true (Some w) = record { same = refl; fine = tt }
      by false (Some w) = aborted_plain (ended_at d.tick (end.Coincided list) w ∷ []) (record d { pending = without w.root d.pending }) (refl, tt)
  heard_plain (Some (Fails root path)) d = by (timed_of root d.pending)
    where
      by : (o : Option Wait) → IsPlain d.committed (end_timed t cut (end.Failed path) o d).desk (end_timed t cut (end.Failed path) o d).ended
      by None = record { same = refl; fine = tt }
      by (Some w) = aborted_plain (ended_at d.tick (end.Failed path) w ∷ []) (record d { pending = without w.root d.pending }) (refl, tt)

  late_fine : (tick : ℕ) (ws : List Wait) → AllByRecursion IsFine (late_at t cut tick ws)
  late_fine tick ws = each-to_map IsFine (ended_at tick end.TimedOut) (filter (is_late t.buckets tick) ws) (each-any (λ (w : Wait). IsFine (ended_at tick end.TimedOut w)) (λ w. refl) (filter (is_late t.buckets tick) ws))

  one_plain : (d : Desk) → IsPlain d.committed (one_tick t cut d).desk (one_tick t cut d).ended
  one_plain d =
      aborted_plain (late_at t cut (d.tick + 1) d.pending)
      (record d { tick = d.tick + 1; pending = in_time_at t cut (d.tick + 1) d.pending }) (late_fine (d.tick + 1) d.pending)

  ticked_plain : (n : ℕ) (d : Desk) → IsPlain d.committed (ticked t cut n d).desk (ticked t cut n d).ended
  ticked_plain zero d = record { same = refl; fine = tt }
  ticked_plain (suc n) d = by (has_no_tick t cut d) (ticked_plain n (one_tick t cut d).desk)
    where
      by : (b : Bool) → IsPlain (one_tick t cut d).desk.committed (ticked t cut n (one_tick t cut d).desk).desk (ticked t cut n (one_tick t cut d).desk).ended
          → IsPlain d.committed (cond b (still d) (and_then t cut (one_tick t cut d) (ticked t cut n (one_tick t cut d).desk))).desk (cond b (still d) (and_then t cut (one_tick t cut d) (ticked t cut n (one_tick t cut d).desk))).ended
      by true rest = record { same = refl; fine = tt }
      by false rest =
          let one = one_plain d in
          record {
            same = rest.same ∙ one.same;
            fine = each-append IsFine (one_tick t cut d).ended
                (ticked t cut n (one_tick t cut d).desk).ended one.fine rest.fine;
          }

  -- what every begin keeps
  all_filled : (P : Desk → Type 0) (shut : ℕ) → ((f : Desk) (w : Wait) → next_wait t cut shut f ≡ Some w → P f → P (begun t cut w f)) → (places : ℕ)
      (d : Desk) → P d
      → P (filled t cut shut places d).desk
  all_filled P shut step zero d p = p
  all_filled P shut step (suc places) d p = by (next_wait t cut shut d) refl (λ w some. all_filled P shut step places (begun t cut w d) (step d w some p))
    where
      by : (o : Option Wait) → next_wait t cut shut d ≡ o → ((w : Wait) → next_wait t cut shut d ≡ Some w → P (filled t cut shut places (begun t cut w d)).desk)
          → P (fill_more t cut (filled t cut shut places) d o).desk
      by None none later = p
      by (Some w) some later = later w some

  turned_plain : (shut count : ℕ) (o : Option ℕ) (p : Progress) → IsPlain count p.desk p.ended → IsPlain count (turned_by t cut shut o p).desk
      (turned_by t cut shut o p).ended
  turned_plain shut count (Some txid) p is = is
  turned_plain shut count None p is = record {
    same = all_filled (λ (f : Desk). f.committed ≡ count) shut (λ f w some same. same) t.pending
        (ordered t cut p.desk) is.same;
    fine = is.fine;
  }

  plain_turn : (verdict : Option Verdict) (ticks shut : ℕ) (d : Desk) → IsPlain d.committed (turned t cut verdict ticks shut d).desk
      (turned t cut verdict ticks shut d).ended
  plain_turn verdict ticks shut d =
      let a = heard_plain verdict d in
      let b = ticked_plain ticks (heard t cut verdict d).desk in
      turned_plain shut d.committed (passed t cut ticks (heard t cut verdict d)).desk.exhausted (passed t cut ticks (heard t cut verdict d))
      (record { same = b.same ∙ a.same; fine = each-append IsFine (heard t cut verdict d).ended (ticked t cut ticks (heard t cut verdict d).desk).ended a.fine b.fine })

  -- it commits nothing
  pub turn_committed : (verdict : Option Verdict) (ticks shut : ℕ) (d : Desk) → (turned t cut verdict ticks shut d).desk.committed ≡ d.committed
  turn_committed verdict ticks shut d = (plain_turn verdict ticks shut d).same

  -- no end of a turn is a commit that failed
  pub turn_fine : (verdict : Option Verdict) (ticks shut : ℕ) (d : Desk) → AllByRecursion IsFine (turned t cut verdict ticks shut d).ended
  turn_fine verdict ticks shut d = (plain_turn verdict ticks shut d).fine

  -- an attempt that begins is timed
  begins_timed : (shut : ℕ) (f : Desk) (w : Wait) → next_wait t cut shut f ≡ Some w → is_some w.settled ≡ false
  begins_timed shut f w some = by (next_root t cut f) some
    where
      never : None ≡ Some w → ⊥
      never e = cc

      same : (v : Wait) → Some v ≡ Some w → v ≡ w
      same v e = cc

      made : (root : Root) (numbers : List ℕ) → fresh t cut f root numbers ≡ Some w → is_some w.settled ≡ false
      made root [] none = absurd (never none)
      made root (n ∷ numbers) is =
          sym (ap (λ (v : Wait). is_some v.settled) (same (record { root = root; spans = runs_of (n ∷ numbers); start = f.tick; settled = None }) is))

      by : (o : Option Root) → option_and_then (λ root. fresh t cut f root (offered (offers_of cut f.gone) root.txid shut)) o ≡ Some w
          → is_some w.settled ≡ false
      by None none = absurd (never none)
      by (Some root) is = made root (offered (offers_of cut f.gone) root.txid shut) is

  -- a commit is out after a turn that did not stop, where an attempt is next
  pub turn_out : (verdict : Option Verdict) (ticks shut : ℕ) (d : Desk) → (turned t cut verdict ticks shut d).desk.exhausted ≡ None
      → (turned t cut verdict ticks shut d).desk.out ≡ is_some (next_to_commit t cut (turned t cut verdict ticks shut d).desk)
  turn_out verdict ticks shut d = by (passed t cut ticks (heard t cut verdict d)) (passed t cut ticks (heard t cut verdict d)).desk.exhausted refl
    where
      begins : (f : Desk) (w : Wait) → next_wait t cut shut f ≡ Some w → f.out ≡ is_some (next_to_commit t cut f) → f.out ≡ is_some
          (next_to_commit t cut (begun t cut w f))
      begins f w some out =
          out ∙ ap is_some (sym
          (find_push (λ (v : Wait). (v.root.txid == f.committed + 1) && is_some v.settled) f.pending w
          (and_right (w.root.txid == f.committed + 1) (is_some w.settled) (begins_timed shut f w some))))

      by : (p : Progress) (o : Option ℕ) → p.desk.exhausted ≡ o → (turned_by t cut shut o p).desk.exhausted ≡ None
          → (turned_by t cut shut o p).desk.out ≡ is_some (next_to_commit t cut (turned_by t cut shut o p).desk)
      by p (Some txid) is none = absurd (some_none txid (sym is ∙ none))
      by p None is none = all_filled (λ (f : Desk). f.out ≡ is_some (next_to_commit t cut f)) shut begins t.pending (ordered t cut p.desk) refl

  -- ---- a turn in which no partition is shut

  -- without partitions what is shut does not matter
  offers_alike : (shut txid : ℕ) (gone : List Bool) → cut.partitions ≡ 0 → offered (offers_of cut gone) txid shut ≡ offered (offers_of cut gone) txid 0
  offers_alike shut txid gone none = by (cut.partitions == 0) (eq-eqb cut.partitions 0 none)
    where
      by : (b : Bool) → b ≡ true
          → cond b (batch_numbers (length cut.records) cut.size txid) (first_free cut.size cut.partitions shut gone)
          ≡ cond b (batch_numbers (length cut.records) cut.size txid) (first_free cut.size cut.partitions 0 gone)
      by true is = refl
      by false is = absurd (true≢false (sym is))

  next_alike : (shut : ℕ) (d : Desk) → cut.partitions ≡ 0 → next_wait t cut shut d ≡ next_wait t cut 0 d
  next_alike shut d none = by (next_root t cut d)
    where
      by : (o : Option Root)
          → option_and_then (λ (root : Root). fresh t cut d root (offered (offers_of cut d.gone) root.txid shut)) o
          ≡ option_and_then (λ (root : Root). fresh t cut d root (offered (offers_of cut d.gone) root.txid 0)) o
      by None = refl
      by (Some root) = ap (fresh t cut d root) (offers_alike shut root.txid d.gone none)

  filled_alike : (shut : ℕ) → cut.partitions ≡ 0 → (places : ℕ) (d : Desk) → filled t cut shut places d ≡ filled t cut 0 places d
  filled_alike shut none zero d = refl
  filled_alike shut none (suc places) d =
      ap (fill_more t cut (filled t cut shut places) d) (next_alike shut d none) ∙ by (next_wait t cut 0 d)
      (λ w. filled_alike shut none places (begun t cut w d))
    where
      by : (o : Option Wait) → ((w : Wait) → filled t cut shut places (begun t cut w d) ≡ filled t cut 0 places (begun t cut w d))
          → fill_more t cut (filled t cut shut places) d o ≡ fill_more t cut (filled t cut 0 places) d o
      by None same = refl
      by (Some w) same = ap (λ (f : Filled t cut). record { desk = f.desk; begun = w ∷ f.begun }) (same w)

  turned_alike : (shut : ℕ) → cut.partitions ≡ 0 → (o : Option ℕ) (p : Progress) → turned_by t cut shut o p ≡ turned_by t cut 0 o p
  turned_alike shut none (Some txid) p = refl
  turned_alike shut none None p = ap (ordered_and_filled t cut p.desk p.ended) (filled_alike shut none t.pending (ordered t cut p.desk))

  -- a turn is as one in which no partition is shut
  pub turned_open : (verdict : Option Verdict) (ticks shut : ℕ) (d : Desk) → (0 < cut.partitions → shut ≡ 0)
      → turned t cut verdict ticks shut d ≡ turned t cut verdict ticks 0 d
  turned_open verdict ticks shut d is_open =
      elim (cases_eq cut.partitions 0) [
        | inl none ↦ turned_alike shut none (passed t cut ticks (heard t cut verdict d)).desk.exhausted (passed t cut ticks (heard t cut verdict d))
        | inr some ↦ ap (λ (s : ℕ). turned t cut verdict ticks s d) (is_open (omega (arith, some)))
      ]

  -- ---- what a turn adds

  pub as_many : (begins : List Wait) (s : Stand) (ids : List ℕ) (at : ℕ) → length (placed at (opened t cut s begins ids)) ≡ length begins
  as_many [] s ids at = refl
  as_many (w ∷ begins) s ids at = ap suc (as_many begins _ _ _)

  -- nothing was there to be handed over or heard, and no attempt begins
  pub record IsQuietTurn (w : World) : Type 0 where
    pub orders : w.orders ≡ []
    pub verdicts : w.verdicts ≡ []
    pub begun : (turned_in t cut w).begun ≡ []

  module _ (w : World) (h : History) (at : ℕ) (ids : List ℕ) where
    turn_adds_up : (to : Turned t cut) → to.desk.committed ≡ w.desk.committed
        → done (joined h (hears (slice_get w.verdicts 0) (placed at (opened t cut w.spout to.begun ids)))) (with_turn t cut ids to w)
        ≡ done h w + (length (option_to_list (slice_get w.verdicts 0)) + length to.begun)
    turn_adds_up to same =
        let m = as_many to.begun w.spout ids at in
        let f = length-front w.verdicts in
        let x = taken-joined h (hears (slice_get w.verdicts 0) (placed at (opened t cut w.spout to.begun ids))) in
        let y = begun-joined h (hears (slice_get w.verdicts 0) (placed at (opened t cut w.spout to.begun ids))) in omega arith

    abbrev pub DoesTurn : Type 0
    DoesTurn = Stepped (done h w) (done (joined h (turn_adds t cut at ids w)) (turn_step t cut ids w)) (IsQuietTurn w)

    turns : (to : Turned t cut) → to ≡ turned_in t cut w → to.desk.committed ≡ w.desk.committed → w.orders ≡ []
        → Stepped (done h w) (done (joined h (hears (slice_get w.verdicts 0) (placed at (opened t cut w.spout to.begun ids)))) (with_turn t cut ids to w)) (IsQuietTurn w)
    turns to is same out = by w.verdicts refl to.begun refl
      where
        sum : done (joined h (hears (slice_get w.verdicts 0) (placed at (opened t cut w.spout to.begun ids)))) (with_turn t cut ids to w)
            ≡ done h w + (length (option_to_list (slice_get w.verdicts 0)) + length to.begun)
        sum = turn_adds_up to same

        front : (vs : List Verdict) → w.verdicts ≡ vs → length (option_to_list (slice_get w.verdicts 0)) ≡ length (option_to_list (slice_get vs 0))
        front vs e = ap (λ (us : List Verdict). length (option_to_list (slice_get us 0))) e

        by : (vs : List Verdict) → w.verdicts ≡ vs → (begins : List Wait) → to.begun ≡ begins
            → Stepped (done h w) (done (joined h (hears (slice_get w.verdicts 0) (placed at (opened t cut w.spout to.begun ids)))) (with_turn t cut ids to w)) (IsQuietTurn w)
        by (v ∷ vs) e begins b = rose (let s = sum in let f = front (v ∷ vs) e in omega arith)
        by [] e (x ∷ begins) b = rose (let s = sum in let l = ap length b in omega arith)
        by [] e [] b = kept (let s = sum in let f = front [] e in let l = ap length b in omega arith)
            (record { orders = out; verdicts = e; begun = ap (λ (x : Turned t cut). x.begun) (sym is) ∙ b })

    hands_over : IsOrderly t w → (p : Parcel) (rest : List Parcel) → w.orders ≡ p ∷ rest → done h w < done (joined h nothing) (delivered t p (record w { orders = rest }))
    hands_over is p rest out =
        let fits : AllByRecursion (FitsParcel t) (p ∷ rest) = subst (AllByRecursion (FitsParcel t)) out is.orders in
        let b = in_boxes-delivered t p (record w { orders = rest }) is.task_count is.acker_count fits.0 in
        let k = committed-delivered t p (record w { orders = rest }) in
        let x = taken-joined h nothing in
        let y = begun-joined h nothing in omega arith

    pub turn_does : IsOrderly t w → DoesTurn
    turn_does is = by w.orders refl
      where
        by : (out : List Parcel) → w.orders ≡ out → Stepped (done h w) (done (joined h (turn_adds_past t cut at ids w out)) (turn_past t cut ids w out)) (IsQuietTurn w)
        by (p ∷ rest) out = rose (hands_over is p rest out)
        by [] out = turns (turned_in t cut w) refl (turn_committed (slice_get w.verdicts 0) w.unheard w.shut w.desk) out

  -- ---- what the outcome of a commit adds

  module _ (w : World) (h : History) where
    abbrev pub DoesOutcome : Type 0
    DoesOutcome = Stepped (done h w) (done (joined h nothing) (outcome_step t cut outcome.Done w)) (w.desk.out ≡ true → next_to_commit t cut w.desk ≡ None)

    pub outcome_does : DoesOutcome
    outcome_does = outer w.desk.out refl
      where
        same : (p : Progress) → p.desk.committed ≡ w.desk.committed → done (joined h nothing) (with_progress t cut p w) ≡ done h w
        same p e = let x = taken-joined h nothing in let y = begun-joined h nothing in omega arith

        more : (p : Progress) → p.desk.committed ≡ w.desk.committed + 1 → done h w < done (joined h nothing) (with_progress t cut p w)
        more p e = let x = taken-joined h nothing in let y = begun-joined h nothing in omega arith

        inner : (o : Option Wait) → next_to_commit t cut w.desk ≡ o
            → Stepped (done h w) (done (joined h nothing) (with_progress t cut (decided_by t cut outcome.Done o w.desk) w)) (w.desk.out ≡ true → next_to_commit t cut w.desk ≡ None)
        inner None is = kept (same (decided_by t cut outcome.Done None w.desk) refl) (λ on. is)
        inner (Some next) is = rose (more (decided_by t cut outcome.Done (Some next) w.desk) refl)

        off_on : false ≡ true → ⊥
        off_on e = cc

        outer : (b : Bool) → w.desk.out ≡ b → Stepped (done h w) (done (joined h nothing) (cond b (with_progress t cut (decided t cut outcome.Done w.desk) w) w)) (w.desk.out ≡ true → next_to_commit t cut w.desk ≡ None)
        outer true is = inner (next_to_commit t cut w.desk) refl
        outer false is = kept (let x = taken-joined h nothing in let y = begun-joined h nothing in omega arith) (λ on. absurd (off_on (sym is ∙ on)))
