-- A round in which nothing is done finds every box and outbox empty, and a commit out where an
-- attempt is settled.
use Rattle.std.proofs.Common.{◌≡◌, ◌≢◌, ◌<◌, ◌≤◌, inl, inr, ℕ, zero, suc, ◌+◌, ◌==◌, ◌&&◌, ◌||◌, Bool, true, false, cond, List, [], ◌∷◌, ◌++◌, length, map, drop, replicate, slice_get, slice_index_or, Option, None, Some, refl, sym, ap, ◌∙◌, subst, arith}
use Rattle.std.specs.Prelude.{All, is_some}
use Rattle.std.specs.List.{AllByRecursion, find, flat_map, range_with_len}
use Rattle.std.specs.Cmp.{nat_eq_equiv}
use Rattle.std.proofs.lemmas.Bool.{cases_lt}
use Rattle.std.proofs.lemmas.List.{append_assoc}
use Rattle.event_worlds.specs.acker_core.declared.verdict.Verdict.{Verdict}
use Rattle.event_worlds.specs.attempt_fates.declared.fates.Attempt.{Attempt}
use Rattle.event_worlds.specs.bolt_ops.RowOp.{Custom}
use Rattle.event_worlds.specs.commit_turns.declared.wait.Wait.{Wait}
use Rattle.event_worlds.specs.commit_turns.Desks.{Desk, has_txid}
use Rattle.event_worlds.specs.commit_turns.Kept.{HasLowest, IsKept}
use Rattle.event_worlds.specs.commit_turns.Turns.{Turned, is_finished, next_to_commit, turned}
use Rattle.event_worlds.specs.Added.{step_adds}
use Rattle.event_worlds.specs.Worlds.{AckerSide, Known, Step, TaskSide, World, coordinator_steps, no_acker, no_task, next_words, of_acker, of_outcome, of_task, of_tick, of_turn, opened, outcome_step, outcomes_of, step, task_at, task_needs, turn_needs, turn_past, turn_step, turned_in}
use Rattle.event_worlds.specs.state_parts.declared.answer.CommitOutcome.{CommitOutcome}
use Rattle.event_worlds.specs.state_parts.declared.answer.CommitOutcome.TheVariants as outcome
use Rattle.event_worlds.specs.topology_plan.Topology.{Topology, tasks_in_all}
use Rattle.event_worlds.specs.topology_plan.Valid.{IsValid}
use Rattle.event_worlds.specs.tree_model.declared.messages.Parcel.{Parcel}
use Rattle.event_worlds.specs.taken_records.Cuts.{Cut, IsStart}
use Rattle.event_worlds.specs.tuple_account.Histories.{History, joined, nothing, opening_parcels}
use Rattle.event_worlds.specs.Rounds.{round_with}
use Rattle.world_progress.proofs.Answering.{IsIdleAcker, IsIdleSide, IsQuietAcker, acker_does}
use Rattle.world_progress.specs.Doing.{done}
use Rattle.world_progress.proofs.Doing.{IsIdleTask, task_beyond, task_there}
use Rattle.world_progress.specs.Lasting.{Lasting}
use Rattle.world_progress.specs.Rounding.{IsOpen}
use Rattle.world_progress.proofs.Running.{LeadsOn, Still, goes, not_over, quiet_in, still-next, sure-done}
use Rattle.world_progress.proofs.Turning.{IsQuietTurn, outcome_does, turn_does, turn_out, turned_open}

-- a law of turns: afterwards an attempt of the lowest transaction is pending
abbrev pub LowestStays : Type 0
LowestStays = (t : Topology) (cut : Cut) (d : Desk) (fates : List Attempt) → IsValid t → IsStart cut → d.exhausted ≡ None → IsKept t cut d fates
    → (verdict : Option Verdict) (ticks : ℕ) → HasLowest t cut (turned t cut verdict ticks 0 d).desk

-- ---- a settled attempt of the lowest transaction is next

swapped : (a b : ℕ) → (a == b) ≡ (b == a)
swapped a b = nat_eq_equiv.symm a b

some_of : {X : Type 0} (o : Option X) → o ≢ None → is_some o ≡ true
some_of None differ = absurd (differ refl)
some_of (Some x) differ = refl

pub settled_next : (txid : ℕ) (ws : List Wait) → has_txid txid ws ≡ true → AllByRecursion (λ (w : Wait). w.settled ≢ None) ws
    → is_some (find (λ (w : Wait). (w.root.txid == txid) && is_some w.settled) ws) ≡ true
settled_next txid [] has all = absurd (never has)
  where
    never : false ≡ true → ⊥
    never e = cc
settled_next txid (w ∷ ws) has all = by (w.root.txid == txid) refl (is_some w.settled) (some_of w.settled all.0) (λ later. settled_next txid ws later all.1)
  where
    by : (b : Bool) → (w.root.txid == txid) ≡ b → (c : Bool) → c ≡ true → (has_txid txid ws ≡ true → is_some (find (λ (v : Wait). (v.root.txid == txid) && is_some v.settled) ws) ≡ true)
        → is_some (cond (b && c) (Some w) (find (λ (v : Wait). (v.root.txid == txid) && is_some v.settled) ws)) ≡ true
    by true on true some later = refl
    by true on false some later = absurd (never some)
      where
        never : false ≡ true → ⊥
        never e = cc
    by false off c some later = later (ap (λ (b : Bool). b || has_txid txid ws) (sym (swapped txid w.root.txid ∙ off)) ∙ has)

pub over_parts : {X : Type 0} (o : Option X) (b : Bool) → cond (is_some o) true b ≡ false → (o ≡ None) × (b ≡ false)
over_parts None b off = (refl, off)
over_parts (Some x) b off = absurd (never off)
  where
    never : true ≡ false → ⊥
    never e = cc

-- ---- a world after a turn that finds nothing

pub record IsTurnedSo (t : Topology) (cut : Cut) (w v : World) : Type 0 where
  pub tasks : v.tasks ≡ w.tasks
  pub ackers : v.ackers ≡ w.ackers
  pub verdicts : v.verdicts ≡ []
  pub orders : v.orders ≡ []
  pub desk : v.desk ≡ (turned_in t cut w).desk

turned_so : (t : Topology) (cut : Cut) (ids : List ℕ) (w : World) → IsQuietTurn t cut w → IsTurnedSo t cut w (turn_step t cut ids w)
turned_so t cut ids w is = by w.orders is.orders
  where
    never : (p : Parcel) (rest : List Parcel) → p ∷ rest ≡ [] → ⊥
    never p rest e = cc

    by : (out : List Parcel) → out ≡ [] → IsTurnedSo t cut w (turn_past t cut ids w out)
    by (p ∷ rest) none = absurd (never p rest none)
    by [] none = record {
      tasks = refl;
      ackers = refl;
      verdicts = ap (drop 1) is.verdicts;
      orders = ap (λ (begins : List Wait). flat_map (opening_parcels t) (opened t cut w.spout begins ids)) is.begun;
      desk = refl;
    }

-- nothing stands anywhere
pub record IsEmpty (t : Topology) (w : World) : Type 0 where
  pub tasks : (n : ℕ) → n < tasks_in_all t → IsIdleTask t n w
  pub ackers : (n : ℕ) → n < t.ackers → IsIdleAcker n w
  pub verdicts : w.verdicts ≡ []
  pub orders : w.orders ≡ []

module _ (t : Topology) (custom : Custom) (cut : Cut) (words : ℕ → ℕ → ℕ) (outcomes : List CommitOutcome) (leads : LeadsOn t custom cut words outcomes) (all_done : All (λ (how : CommitOutcome). how ≡ outcome.Done) outcomes) where
  abbrev StillRun : List Step → History → Known → Type 0
  StillRun steps h k = Still t custom cut words outcomes leads all_done steps h k

  -- the world after a step
  abbrev world_past : Step → Known → World
  world_past s k = (goes t custom cut words outcomes s k).world

  abbrev DoesNothing : Step → History → Known → Type 0
  DoesNothing s h k = done (joined h (step_adds t custom cut words s k)) (world_past s k) ≤ done h k.world

  -- ---- single steps

  task_quiet : (n : ℕ) (h : History) (k : Known) → Lasting t custom cut words h k → DoesNothing (of_task n) h k → (world_past (of_task n) k ≡ k.world) × IsIdleTask t n k.world
  unfolding step
  task_quiet n h k last less =
      elim (cases_lt n (tasks_in_all t)) [
        | inl there ↦ quiet_in _ _ (task_there t custom k.world last.led.orderly h n (k.counts n) (next_words words k.counts n (task_needs t custom (task_at t n k.world))) there) less
        | inr beyond ↦ quiet_in _ _ (task_beyond t custom k.world last.led.orderly h n (k.counts n) (next_words words k.counts n (task_needs t custom (task_at t n k.world))) beyond) less
      ]

  acker_quiet : (n : ℕ) (h : History) (k : Known) → DoesNothing (of_acker n) h k → IsQuietAcker n k.world (world_past (of_acker n) k)
      × (((world_past (of_acker n) k).tasks ≡ k.world.tasks) × ((world_past (of_acker n) k).shut ≡ k.world.shut))
  unfolding step
  acker_quiet n h k less = (quiet_in _ _ (acker_does t k.world h n) less, (refl, refl))

  tick_quiet : (k : Known) → ((world_past of_tick k).ackers ≡ k.world.ackers)
      × (((world_past of_tick k).tasks ≡ k.world.tasks) × ((world_past of_tick k).shut ≡ k.world.shut))
  unfolding step
  tick_quiet k = (refl, (refl, refl))

  turn_quiet : (h : History) (k : Known) → Lasting t custom cut words h k → DoesNothing of_turn h k → IsTurnedSo t cut k.world (world_past of_turn k)
  unfolding step
  turn_quiet h k last less =
      turned_so t cut (next_words words k.counts (tasks_in_all t) (turn_needs t cut k.world)) k.world
      (quiet_in _ _ (turn_does t cut k.world h (k.counts (tasks_in_all t)) (next_words words k.counts (tasks_in_all t) (turn_needs t cut k.world)) last.led.orderly) less)

  outcome_quiet : (h : History) (k : Known) → DoesNothing of_outcome h k → k.world.desk.out ≡ true → next_to_commit t cut k.world.desk ≡ None
  unfolding step
  outcome_quiet h k less =
      quiet_in _ _ (outcome_does t cut k.world h)
      (subst (λ (how : CommitOutcome). done (joined h nothing) (outcome_step t cut how k.world) ≤ done h k.world) (sure-done outcomes (length (outcomes_of k.world.fates)) all_done) less)

  -- ---- the tasks

  record AfterTasks (w : World) (until : ℕ) (rest : List Step) : Type 0 where
    h : History
    k : Known
    still : StillRun rest h k
    same : k.world ≡ w
    idle : (m : ℕ) → m < until → IsIdleTask t m w

  below_next : (P : ℕ → Type 0) (n : ℕ) → ((m : ℕ) → m < n → P m) → P n → (m : ℕ) → m < n + 1 → P m
  below_next P n before here m below =
      elim (cases_lt m n) [
        | inl less ↦ before m less
        | inr not_less ↦ let e : n ≡ m = omega arith in subst P e here
      ]

  tasks_phase : (w : World) (count n : ℕ) (rest : List Step) (h : History) (k : Known) → StillRun (map of_task (range_with_len n count) ++ rest) h k → k.world ≡ w
      → ((m : ℕ) → m < n → IsIdleTask t m w) → AfterTasks w (n + count) rest
  tasks_phase w zero n rest h k still same before = record { h = h; k = k; still = still; same = same; idle = λ m below. before m (omega arith) }
  tasks_phase w (suc count) n rest h k still same before =
      let a = still-next t custom cut words outcomes leads all_done (of_task n) (map of_task (range_with_len (n + 1) count) ++ rest) h k still in
      let q = task_quiet n h k still.starts.last a.nothing_done in
      let r = tasks_phase w count (n + 1) rest _ _ a.rest (q.0 ∙ same) (below_next (λ (m : ℕ). IsIdleTask t m w) n before (subst (IsIdleTask t n) same q.1)) in
      record { h = r.h; k = r.k; still = r.still; same = r.same; idle = λ m below. r.idle m (omega arith) }

  -- ---- the ackers

  record AfterAckers (sides : List TaskSide) (shut until : ℕ) (rest : List Step) : Type 0 where
    h : History
    k : Known
    still : StillRun rest h k
    same : k.world.tasks ≡ sides
    as_shut : k.world.shut ≡ shut
    idle : (m : ℕ) → m < until → IsIdleAcker m k.world

  ackers_phase : (sides : List TaskSide) (shut count n : ℕ) (rest : List Step) (h : History) (k : Known) → StillRun
      (map of_acker (range_with_len n count) ++ rest) h k
      → k.world.tasks ≡ sides → k.world.shut ≡ shut → ((m : ℕ) → m < n → IsIdleAcker m k.world) → AfterAckers sides shut (n + count) rest
  ackers_phase sides shut zero n rest h k still same as_shut before = record { h = h; k = k; still = still; same = same; as_shut = as_shut; idle = λ m below. before m (omega arith) }
  ackers_phase sides shut (suc count) n rest h k still same as_shut before =
      let a = still-next t custom cut words outcomes leads all_done (of_acker n) (map of_acker (range_with_len (n + 1) count) ++ rest) h k still in
      let q = acker_quiet n h k a.nothing_done in
      let r = ackers_phase sides shut count (n + 1) rest _ _ a.rest (q.1.0 ∙ same) (q.1.1 ∙ as_shut)
      (below_next (λ (m : ℕ). IsIdleAcker m (world_past (of_acker n) k)) n (λ m below. q.0.others m (before m below)) q.0.here) in
      record { h = r.h; k = r.k; still = r.still; same = r.same; as_shut = r.as_shut; idle = λ m below. r.idle m (omega arith) }

  -- ---- ticks

  ticks_phase : (sides : List TaskSide) (shut until count : ℕ) (rest : List Step) (h : History) (k : Known) → StillRun (replicate count of_tick ++ rest) h k
      → k.world.tasks ≡ sides → k.world.shut ≡ shut → ((m : ℕ) → m < until → IsIdleAcker m k.world) → AfterAckers sides shut until rest
  ticks_phase sides shut until zero rest h k still same as_shut idle = record { h = h; k = k; still = still; same = same; as_shut = as_shut; idle = idle }
  ticks_phase sides shut until (suc count) rest h k still same as_shut idle =
      let a = still-next t custom cut words outcomes leads all_done of_tick (replicate count of_tick ++ rest) h k still in
      let q = tick_quiet k in
      ticks_phase sides shut until count rest _ _ a.rest (q.1.0 ∙ same) (q.1.1 ∙ as_shut)
      (λ m below. subst (λ (others : List AckerSide). IsIdleSide (slice_index_or others m no_acker)) (sym q.0) (idle m below))

  -- ---- the coordinator

  -- A world in which nothing stands, right before a commit.
  record AtRest : Type 0 where
    h : History
    k : Known
    still : StillRun (of_outcome ∷ []) h k
    empty : IsEmpty t k.world
    lowest : HasLowest t cut k.world.desk
    out : k.world.desk.exhausted ≡ None → k.world.desk.out ≡ is_some (next_to_commit t cut k.world.desk)

  open_desk : (steps : List Step) (h : History) (k : Known) → StillRun steps h k → (k.world.desk.exhausted ≡ None) × (is_finished t cut k.world.desk ≡ false)
  open_desk steps h k still = over_parts k.world.desk.exhausted (is_finished t cut k.world.desk) (not_over t custom cut words outcomes leads all_done steps h k still)

  module _ (lowest : LowestStays) (valid : IsValid t) (start : IsStart cut) where
    turn_phase : (h : History) (k : Known) → StillRun (of_turn ∷ of_outcome ∷ []) h k → IsOpen cut k.world
        → ((m : ℕ) → m < tasks_in_all t → IsIdleTask t m k.world) → ((m : ℕ) → m < t.ackers → IsIdleAcker m k.world) → AtRest
    turn_phase h k still is_open idle_tasks idle_ackers =
        let a = still-next t custom cut words outcomes leads all_done of_turn (of_outcome ∷ []) h k still in
        let q = turn_quiet h k still.starts.last a.nothing_done in
        record {
          h = joined h (step_adds t custom cut words of_turn k);
          k = goes t custom cut words outcomes of_turn k;
          still = a.rest;
          empty = record {
            tasks = λ n below. (let i = idle_tasks n below in record {
              inbox = ap (λ (sides : List TaskSide). (slice_index_or sides n (no_task t)).inbox) q.tasks ∙ i.inbox;
              outbox = ap (λ (sides : List TaskSide). (slice_index_or sides n (no_task t)).outbox) q.tasks ∙ i.outbox;
            });
            ackers = λ n below. subst (λ (others : List AckerSide). IsIdleSide (slice_index_or others n no_acker)) (sym q.ackers) (idle_ackers n below);
            verdicts = q.verdicts;
            orders = q.orders;
          };
          lowest = subst (HasLowest t cut)
              (sym (q.desk ∙ ap (λ (to : Turned t cut). to.desk)
              (turned_open t cut (slice_get k.world.verdicts 0) k.world.unheard k.world.shut k.world.desk is_open)))
              (lowest t cut k.world.desk k.world.fates valid start (open_desk (of_turn ∷ of_outcome ∷ []) h k still).0 still.starts.last.led.kept
              (slice_get k.world.verdicts 0) k.world.unheard);
          out = subst (λ (d : Desk). d.exhausted ≡ None → d.out ≡ is_some (next_to_commit t cut d)) (sym q.desk)
              (turn_out t cut (slice_get k.world.verdicts 0) k.world.unheard k.world.shut k.world.desk);
        }

    idle_again : (w v : World) → v.tasks ≡ w.tasks → ((m : ℕ) → m < tasks_in_all t → IsIdleTask t m w) → (m : ℕ) → m < tasks_in_all t → IsIdleTask t m v
    idle_again w v same idle m below =
        let i = idle m below in record {
          inbox = ap (λ (sides : List TaskSide). (slice_index_or sides m (no_task t)).inbox) same ∙ i.inbox;
          outbox = ap (λ (sides : List TaskSide). (slice_index_or sides m (no_task t)).outbox) same ∙ i.outbox;
        }

    open_again : (w v : World) → v.shut ≡ w.shut → IsOpen cut w → IsOpen cut v
    open_again w v same is_open some = same ∙ is_open some

    round_phase : (ticks : ℕ) (h : History) (k : Known) → StillRun (round_with t ticks) h k → IsOpen cut k.world → AtRest
    round_phase ticks h k still is_open =
        let a = tasks_phase k.world (tasks_in_all t) 0 (map of_acker (range_with_len 0 t.ackers) ++ (replicate ticks of_tick ++ coordinator_steps)) h k
        (subst (λ (steps : List Step). StillRun steps h k) grouped still) refl (λ m below. absurd (omega arith)) in
        let b = ackers_phase k.world.tasks k.world.shut t.ackers 0 (replicate ticks of_tick ++ coordinator_steps) a.h a.k a.still
        (ap (λ (w : World). w.tasks) a.same) (ap (λ (w : World). w.shut) a.same)
        (λ m below. absurd (omega arith)) in
        let c = ticks_phase k.world.tasks k.world.shut t.ackers ticks coordinator_steps b.h b.k b.still b.same b.as_shut (λ m below. b.idle m (omega arith)) in
        turn_phase c.h c.k c.still (open_again k.world c.k.world c.as_shut is_open)
        (idle_again k.world c.k.world c.same (λ m below. a.idle m (omega arith))) c.idle
      where
        grouped : round_with t ticks ≡ map of_task (range_with_len 0 (tasks_in_all t)) ++ (map of_acker (range_with_len 0 t.ackers) ++ (replicate ticks of_tick ++ coordinator_steps))
        grouped = simp append_assoc

    -- ---- a round does something

    -- where nothing stands all pending attempts are settled
    abbrev pub Settles : Type 0
    Settles = (h : History) (k : Known) → Lasting t custom cut words h k → IsEmpty t k.world → AllByRecursion (λ (w : Wait). w.settled ≢ None) k.world.desk.pending

    pub round_stirs : Settles → (ticks : ℕ) (h : History) (k : Known) → StillRun (round_with t ticks) h k → IsOpen cut k.world → ⊥
    round_stirs settles ticks h k still is_open = ends (round_phase ticks h k still is_open)
      where
        ends : AtRest → ⊥
        ends r =
            let o = open_desk (of_outcome ∷ []) r.h r.k r.still in
            let all = settles r.h r.k r.still.starts.last r.empty in
            let next = settled_next (r.k.world.desk.committed + 1) r.k.world.desk.pending (r.lowest o.0 o.1) all in
            let a = still-next t custom cut words outcomes leads all_done of_outcome [] r.h r.k r.still in
            let none = outcome_quiet r.h r.k a.nothing_done (r.out o.0 ∙ next) in
            absurd (never (sym (ap is_some none) ∙ next))
          where
            never : false ≡ true → ⊥
            never e = cc
