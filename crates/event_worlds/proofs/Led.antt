-- Each step leads on, with what it adds to the history.
use Rattle.std.proofs.Common.{◌≡◌, ◌≤◌, ℕ, ◌+◌, nat_lt, ltb-true, ltb-false, Bool, true, false, cond, true≢false, List, [], ◌∷◌, ◌++◌, length, All, slice_get, Option, None, Some, refl, sym, ap, subst, ◌∙◌, arith}
use Rattle.std.specs.Prelude.{is_some}
use Rattle.std.specs.Option.{option_to_list}
use Rattle.std.proofs.lemmas.List.{get_or_past}
use Rattle.std.proofs.lemmas.List.Elements.{recursion_from_All}
use Rattle.commit_order.specs.acker_core.declared.verdict.Verdict.{Verdict}
use Rattle.commit_order.specs.attempt_fates.declared.fates.Attempt.{Attempt}
use Rattle.commit_order.specs.bolt_ops.RowOp.{Custom, IsCustom}
use Rattle.commit_order.specs.commit_turns.Account.{desk_of, ends_of}
use Rattle.commit_order.specs.commit_turns.Desks.{Desk, first_desk}
use Rattle.commit_order.specs.commit_turns.Kept.{IsKept}
use Rattle.commit_order.specs.commit_turns.Outcomes.{Begin, IsOutcome, hears}
use Rattle.commit_order.specs.commit_turns.Turns.{decided, is_finished, turned}
use Rattle.commit_order.specs.counted_items.Weights.{weigh}
use Rattle.event_worlds.specs.Accounted.{Accounted, IsInput, LedAt, LedTo, station_of}
use Rattle.event_worlds.specs.Beside.{IsFreeStep, waits}
use Rattle.event_worlds.specs.Added.{added, first_history, step_adds, task_adds}
use Rattle.event_worlds.specs.Worlds.{Known, Step, World, drew, first_known, is_over, next, next_outcome, next_words, no_task, of_acker, of_open, of_outcome, of_shut, of_task, of_tick, of_turn, open_with, outcome_step, outcomes_of, run, shut_with, step, task_at, task_needs, task_step, tick_step, turned_in}
use Rattle.event_worlds.proofs.Acking.{led-acker}
use Rattle.event_worlds.proofs.Leading.{joined-nothing}
use Rattle.event_worlds.proofs.Orderly.{task-beyond}
use Rattle.event_worlds.proofs.Starting.{led-first}
use Rattle.event_worlds.proofs.Tasking.{led-task}
use Rattle.event_worlds.proofs.Ticking.{decided-tick, turned-tick}
use Rattle.event_worlds.proofs.Turning.{MovesOn, TurnsWell, led-outcome, led-shut, led-tick, led-turn, led-turn-none}
use Rattle.event_worlds.proofs.Waiting.{drew-none, each-at}
use Rattle.commit_order.specs.state_parts.declared.answer.CommitOutcome.{CommitOutcome}
use Rattle.commit_order.specs.state_parts.declared.answer.CommitOutcome.TheVariants.{Done}
use Rattle.commit_order.specs.storm_values.declared.value.Root.{Root}
use Rattle.commit_order.specs.topology_plan.Topology.{Topology, tasks_in_all}
use Rattle.commit_order.specs.topology_plan.Valid.{IsValid}
use Rattle.commit_order.specs.taken_records.Cuts.{Cut, IsStart}
use Rattle.commit_order.specs.tuple_account.Fits.{Fits}
use Rattle.commit_order.specs.tuple_account.Histories.{History, Opening, Packet, joined, nothing, opens}
use Rattle.commit_order.specs.tuple_account.Moves.{Station, beside}
use Rattle.commit_order.specs.tuple_account.Sound.{is_about}
use Rattle.commit_order.proofs.commit_turns.Carrying.{carries_turned}

-- What the laws of the coordinator's turns say.
pub record TurnLaws (t : Topology) (cut : Cut) : Type 0 where
  pub kept_first : IsValid t → IsStart cut → IsKept t cut (first_desk cut) []
  pub kept_turn : (d : Desk) (fates : List Attempt) → IsValid t → IsStart cut → d.exhausted ≡ None → IsKept t cut d fates → (verdict : Option Verdict)
      (ticks shut : ℕ)
      → IsKept t cut (turned t cut verdict ticks shut d).desk (fates ++ (turned t cut verdict ticks shut d).ended)
  pub kept_outcome : (d : Desk) (fates : List Attempt) → IsValid t → IsStart cut → d.exhausted ≡ None → IsKept t cut d fates → (how : CommitOutcome)
      → IsKept t cut (decided t cut how d).desk (fates ++ (decided t cut how d).ended)
  pub fits_first : Fits t (desk_of cut (first_desk cut)) (ends_of []) nothing
  pub fits_turn : (d : Desk) (fates : List Attempt) (h : History) → IsValid t → IsStart cut → d.exhausted ≡ None → IsKept t cut d fates
      → Fits t (desk_of cut d) (ends_of fates) h
      → (verdict : Option Verdict) (ticks shut : ℕ) (openings : List Opening) → Begin openings (turned t cut verdict ticks shut d).begun
      → ((root : Root) → weigh (is_about root) (h.heard ++ option_to_list verdict) ≤ weigh (opens root) h.begun)
      → Fits t (desk_of cut (turned t cut verdict ticks shut d).desk) (ends_of (fates ++ (turned t cut verdict ticks shut d).ended))
      (joined h (hears verdict openings))
  pub fits_outcome : (d : Desk) (fates : List Attempt) (h : History) → IsValid t → IsStart cut → d.exhausted ≡ None → IsKept t cut d fates
      → Fits t (desk_of cut d) (ends_of fates) h
      → (how : CommitOutcome) → IsOutcome t how → Fits t (desk_of cut (decided t cut how d).desk) (ends_of (fates ++ (decided t cut how d).ended)) h
  pub roots_turn : (d : Desk) (fates : List Attempt) (h : History) → IsValid t → IsStart cut → d.exhausted ≡ None → IsKept t cut d fates
      → Fits t (desk_of cut d) (ends_of fates) h
      → (verdict : Option Verdict) (ticks shut : ℕ) (openings : List Opening) → Begin openings (turned t cut verdict ticks shut d).begun
      → (root : Root) → weigh (opens root) h.begun + weigh (opens root) openings ≤ 1

none_if : {X : Type 0} (o : Option X) (finished : Bool) → cond (is_some o) true finished ≡ false → o ≡ None
none_if None finished is = refl
none_if (Some x) finished is = absurd (true≢false is)

module _ (t : Topology) (custom : Custom) (cut : Cut) (words : ℕ → ℕ → ℕ) (input : IsInput t cut) (laws : TurnLaws t cut) where
  -- nothing but start words led to the first world
  pub first-led : LedTo t custom cut words (first_history t words) (first_known t cut words)
  first-led = led-first t custom cut words input (laws.kept_first input.valid input.start) laws.fits_first

  module _ (keeps : IsCustom custom) (h : History) (w : World) (c : ℕ → ℕ) (led : LedTo t custom cut words h (record { world = w; counts = c })) where
    task-led : (n : ℕ) → LedTo t custom cut words (joined h (task_adds t custom n (c n) (next_words words c n (task_needs t custom (task_at t n w))) (task_at t n w)))
        (record { world = task_step t custom n (next_words words c n (task_needs t custom (task_at t n w))) w; counts = drew n (task_needs t custom (task_at t n w)) c })
    task-led n = cases (nat_lt n (tasks_in_all t)) refl
      where
        ids : List ℕ
        ids = next_words words c n (task_needs t custom (task_at t n w))

        cases : (b : Bool) → nat_lt n (tasks_in_all t) ≡ b → LedTo t custom cut words (joined h (task_adds t custom n (c n) ids (task_at t n w)))
            (record { world = task_step t custom n ids w; counts = drew n (task_needs t custom (task_at t n w)) c })
        cases true is = led-task t custom cut words input keeps h w c led n (ltb-true n (tasks_in_all t) is)
        cases false is =
            let beyond = ltb-false n (tasks_in_all t) is in
            let size = led.orderly.task_count in
            let still = task-beyond t custom w n beyond led.orderly ids in
            let nobody : task_at t n w ≡ no_task t = get_or_past w.tasks n (no_task t) (omega arith) in
            let adds : joined h (task_adds t custom n (c n) ids (task_at t n w)) ≡ h = (ap (λ side. joined h (task_adds t custom n (c n) ids side)) nobody ∙ joined-nothing h) in
            let counts : (s : ℕ) → drew n (task_needs t custom (task_at t n w)) c s ≡ c s = (λ s. drew-none c n (task_needs t custom (task_at t n w)) s still.1) in
            let all : LedTo t custom cut words h (record { world = w; counts = c }) = led in
            subst (λ (k : History). LedTo t custom cut words k (record { world = task_step t custom n ids w; counts = drew n (task_needs t custom (task_at t n w)) c })) (sym adds)
            (subst (λ (v : World). LedTo t custom cut words h (record { world = v; counts = drew n (task_needs t custom (task_at t n w)) c })) (sym still.0)
            (subst (λ (d : ℕ → ℕ). LedTo t custom cut words h (record { world = w; counts = d })) (λ i s. sym (counts s) i) all))

    turns-well : w.desk.exhausted ≡ None → TurnsWell t cut h w.fates w.tick w.desk (slice_get w.verdicts 0) (turned_in t cut w)
    turns-well none = record {
      kept = laws.kept_turn w.desk w.fates input.valid input.start none led.kept (slice_get w.verdicts 0) w.unheard w.shut;
      fits = laws.fits_turn w.desk w.fates h input.valid input.start none led.kept led.fits (slice_get w.verdicts 0) w.unheard w.shut;
      roots = laws.roots_turn w.desk w.fates h input.valid input.start none led.kept led.fits (slice_get w.verdicts 0) w.unheard w.shut;
      spans = λ R have new. carries_turned R t cut w.desk w.fates have (slice_get w.verdicts 0) w.unheard w.shut new;
      ticks = turned-tick t cut w.tick led.last (slice_get w.verdicts 0) w.unheard w.shut w.desk led.ticks led.unheard;
    }

    module _ (outcomes : List CommitOutcome) (fine : All (IsOutcome t) outcomes) where
      step-led : w.desk.exhausted ≡ None → (s : Step)
          → LedTo t custom cut words (joined h (step_adds t custom cut words s (record { world = w; counts = c }))) (step t custom cut words outcomes s (record { world = w; counts = c }))
      unfolding step
      step-led none (of_task n) = task-led n
      step-led none (of_acker n) = led-acker t custom cut words h w c led n
      step-led none of_turn = led-turn t custom cut words input h w c led (turns-well none)
      step-led none of_outcome =
          let how : CommitOutcome = next_outcome outcomes w.fates in
          let is : IsOutcome t how = each-at (IsOutcome t) outcomes (length (outcomes_of w.fates)) Done (recursion_from_All (IsOutcome t) outcomes fine) tt in
          subst (λ (k : History). LedTo t custom cut words k (record { world = outcome_step t cut how w; counts = c })) (sym (joined-nothing h))
          (led-outcome t custom cut words input h w c (λ s. s) (λ a b more m. m) led how
          (laws.kept_outcome w.desk w.fates input.valid input.start none led.kept how)
          (laws.fits_outcome w.desk w.fates h input.valid input.start none led.kept led.fits how is) (decided-tick t cut how w.desk))
      step-led none of_tick =
          subst (λ (k : History). LedTo t custom cut words k (record { world = tick_step w; counts = c })) (sym (joined-nothing h)) (led-tick t custom cut words input h w c (λ s. s) (λ a b more m. m) led)
      step-led none (of_shut q) =
          subst (λ (k : History). LedTo t custom cut words k (record { world = record w { shut = shut_with q w.shut }; counts = c })) (sym (joined-nothing h))
          (led-shut t custom cut words input h w c (λ s. s) (λ a b more m. m) led (shut_with q w.shut))
      step-led none (of_open q) =
          subst (λ (k : History). LedTo t custom cut words k (record { world = record w { shut = open_with q w.shut }; counts = c })) (sym (joined-nothing h))
          (led-shut t custom cut words input h w c (λ s. s) (λ a b more m. m) led (open_with q w.shut))

      -- a step leads on, with what it adds
      pub next-led : (s : Step)
          → LedTo t custom cut words (joined h (added t custom cut words s (record { world = w; counts = c }))) (next t custom cut words outcomes s (record { world = w; counts = c }))
      next-led s = cases (is_over t cut w) refl
        where
          cases : (b : Bool) → is_over t cut w ≡ b
              → LedTo t custom cut words (joined h (cond b nothing (step_adds t custom cut words s (record { world = w; counts = c })))) (cond b (record { world = w; counts = c }) (step t custom cut words outcomes s (record { world = w; counts = c })))
          cases true is = subst (λ (k : History). LedTo t custom cut words k (record { world = w; counts = c })) (sym (joined-nothing h)) led
          cases false is = step-led (none_if w.desk.exhausted (is_finished t cut w.desk) is) s

-- ---- the coordinator's steps, with what waits beside the world

module _ (t : Topology) (custom : Custom) (cut : Cut) (words : ℕ → ℕ → ℕ) (input : IsInput t cut) (laws : TurnLaws t cut) (on : Station → Station) (onward : MovesOn t custom on) (h : History) (w : World) (c : ℕ → ℕ)
    (led : LedAt t custom cut words (on (station_of (record { world = w; counts = c }))) h (record { world = w; counts = c })) where
  turns-well-on : w.desk.exhausted ≡ None → TurnsWell t cut h w.fates w.tick w.desk (slice_get w.verdicts 0) (turned_in t cut w)
  turns-well-on none = record {
    kept = laws.kept_turn w.desk w.fates input.valid input.start none led.kept (slice_get w.verdicts 0) w.unheard w.shut;
    fits = laws.fits_turn w.desk w.fates h input.valid input.start none led.kept led.fits (slice_get w.verdicts 0) w.unheard w.shut;
    roots = laws.roots_turn w.desk w.fates h input.valid input.start none led.kept led.fits (slice_get w.verdicts 0) w.unheard w.shut;
    spans = λ R have new. carries_turned R t cut w.desk w.fates have (slice_get w.verdicts 0) w.unheard w.shut new;
    ticks = turned-tick t cut w.tick led.last (slice_get w.verdicts 0) w.unheard w.shut w.desk led.ticks led.unheard;
  }

  module _ (outcomes : List CommitOutcome) (fine : All (IsOutcome t) outcomes) where
    step-led-on : w.desk.exhausted ≡ None → (s : Step) → IsFreeStep s w.orders
        → LedAt t custom cut words (on (station_of (step t custom cut words outcomes s (record { world = w; counts = c })))) (joined h (step_adds t custom cut words s (record { world = w; counts = c }))) (step t custom cut words outcomes s (record { world = w; counts = c }))
    unfolding step
    step-led-on none (of_task n) no_step = absurd no_step
    step-led-on none (of_acker n) no_step = absurd no_step
    step-led-on none of_turn is = led-turn-none t custom cut words input h w c on onward led is (turns-well-on none)
    step-led-on none of_outcome free =
        let how : CommitOutcome = next_outcome outcomes w.fates in
        let is : IsOutcome t how = each-at (IsOutcome t) outcomes (length (outcomes_of w.fates)) Done (recursion_from_All (IsOutcome t) outcomes fine) tt in
        subst (λ (k : History). LedAt t custom cut words (on (station_of (record { world = outcome_step t cut how w; counts = c }))) k (record { world = outcome_step t cut how w; counts = c })) (sym (joined-nothing h))
        (led-outcome t custom cut words input h w c on onward led how (laws.kept_outcome w.desk w.fates input.valid input.start none led.kept how)
        (laws.fits_outcome w.desk w.fates h input.valid input.start none led.kept led.fits how is) (decided-tick t cut how w.desk))
    step-led-on none of_tick free =
        subst (λ (k : History). LedAt t custom cut words (on (station_of (record { world = tick_step w; counts = c }))) k (record { world = tick_step w; counts = c })) (sym (joined-nothing h)) (led-tick t custom cut words input h w c on onward led)
    step-led-on none (of_shut q) free =
        subst (λ (k : History). LedAt t custom cut words (on (station_of (record { world = record w { shut = shut_with q w.shut }; counts = c }))) k
        (record { world = record w { shut = shut_with q w.shut }; counts = c }))
        (sym (joined-nothing h)) (led-shut t custom cut words input h w c on onward led (shut_with q w.shut))
    step-led-on none (of_open q) free =
        subst (λ (k : History). LedAt t custom cut words (on (station_of (record { world = record w { shut = open_with q w.shut }; counts = c }))) k
        (record { world = record w { shut = open_with q w.shut }; counts = c }))
        (sym (joined-nothing h)) (led-shut t custom cut words input h w c on onward led (open_with q w.shut))

    pub next-led-on : (s : Step) → IsFreeStep s w.orders
        → LedAt t custom cut words (on (station_of (next t custom cut words outcomes s (record { world = w; counts = c })))) (joined h (added t custom cut words s (record { world = w; counts = c }))) (next t custom cut words outcomes s (record { world = w; counts = c }))
    next-led-on s of = cases (is_over t cut w) refl
      where
        cases : (b : Bool) → is_over t cut w ≡ b
            → LedAt t custom cut words (on (station_of (cond b (record { world = w; counts = c }) (step t custom cut words outcomes s (record { world = w; counts = c }))))) (joined h (cond b nothing (step_adds t custom cut words s (record { world = w; counts = c })))) (cond b (record { world = w; counts = c }) (step t custom cut words outcomes s (record { world = w; counts = c })))
        cases true is = subst (λ (k : History). LedAt t custom cut words (on (station_of (record { world = w; counts = c }))) k (record { world = w; counts = c })) (sym (joined-nothing h)) led
        cases false is = step-led-on (none_if w.desk.exhausted (is_finished t cut w.desk) is) s of

-- packets that wait beside
pub moves-on : (t : Topology) (custom : Custom) (weight : (Packet → ℕ) → ℕ) → MovesOn t custom (λ s. beside (waits weight) s)
moves-on t custom weight a b more m = record {
  packets = λ f. let e = m.packets f in omega arith;
  notes = λ g. let e = m.notes g in omega arith;
  draws = λ s j. let e = m.draws s j in omega arith;
  well = m.well;
}

-- so do all steps
pub run-accounted : (t : Topology) (custom : Custom) (cut : Cut) (words : ℕ → ℕ → ℕ) (outcomes : List CommitOutcome)
    → ((s : Step) (h : History) (k : Known) → LedTo t custom cut words h k → LedTo t custom cut words (joined h (added t custom cut words s k)) (next t custom cut words outcomes s k))
    → (steps : List Step) (k : Known) → Accounted t custom cut words k → Accounted t custom cut words (run t custom cut words outcomes steps k)
run-accounted t custom cut words outcomes leads [] k accounted = accounted
run-accounted t custom cut words outcomes leads (s ∷ steps) k accounted =
    run-accounted t custom cut words outcomes leads steps (next t custom cut words outcomes s k) (joined accounted.0 (added t custom cut words s k), leads s accounted.0 k accounted.1)
