-- A round from a world in which all waits in inboxes, beside boxes that are empty.
use Rattle.std.proofs.Common.{◌≡◌, ◌≤◌, ◌<◌, inl, inr, ℕ, zero, suc, ◌+◌, ◌-◌, ◌^◌, true, false, List, [], ◌∷◌, ◌++◌, All, length, map, get_or, append-nil, true≢false, sym, refl, ap, subst, ◌∙◌, arith}
use Rattle.std.specs.Prelude.{min, replicate}
use Rattle.std.specs.List.{range_with_len}
use Rattle.std.proofs.lemmas.List.FromFn.{fill_by_all}
use Rattle.event_worlds.specs.bolt_ops.RowOp.{Custom, IsCustom}
use Rattle.worker_stretches.specs.box_rows.declared.mail.Mail.{Mail}
use Rattle.worker_stretches.specs.box_rows.Mails.{weigh_mail}
use Rattle.worker_stretches.specs.box_rows.Rows.{sent_in, taken_in}
use Rattle.event_worlds.specs.commit_turns.Outcomes.{IsOutcome}
use Rattle.worker_stretches.specs.event_engine.declared.engine.Engine.{Engine}
use Rattle.worker_stretches.specs.event_engine.Engines.{Gives, Goes, HasOutcomes, IsReady, cut_in, has_ended, shape}
use Rattle.event_worlds.specs.Accounted.{IsInput, LedAt, LedTo, station_of}
use Rattle.event_worlds.specs.Added.{added}
use Rattle.event_worlds.specs.Beside.{LedBeside, waits}
use Rattle.event_worlds.specs.Rounds.{CanFinish, round_with, ticks_in}
use Rattle.event_worlds.specs.Worlds.{AckerSide, Known, Step, TaskSide, World, coordinator_steps, is_over, next, no_acker, no_task, of_acker, of_task, of_tick, outcomes_of, run}
use Rattle.event_worlds.specs.Orderly.{IsOrderly}
use Rattle.event_worlds.proofs.Waiting.{each-at}
use Rattle.event_worlds.specs.state_parts.declared.answer.CommitOutcome.{CommitOutcome}
use Rattle.event_worlds.specs.state_parts.declared.answer.CommitOutcome.TheVariants.{Done}
use Rattle.schedule_core.proofs.TicksOfRuns.{ticks-of-rounds}
use Rattle.schedule_core.specs.Driving.{Drives}
use Rattle.event_worlds.specs.state_parts.declared.parts.StatePart.{StatePart}
use Rattle.event_worlds.specs.storm_ids.declared.ids.Ids.{Ghosts}
use Rattle.storm_stores.specs.CellMaps.{CellMap}
use Rattle.task_queues.specs.declared.pass.Pass.{Pass}
use Rattle.task_queues.specs.declared.rule.Stamped.{Stamped}
use Rattle.event_worlds.specs.topology_plan.Topology.{Topology, tasks_in_all}
use Rattle.event_worlds.specs.taken_records.Cuts.{Cut}
use Rattle.event_worlds.specs.tuple_account.Histories.{History, Packet, joined}
use Rattle.event_worlds.specs.tuple_account.Moves.{Station, beside}
use Rattle.worker_stretches.specs.world_progress.Doing.{done}
use Rattle.worker_stretches.specs.world_progress.Lasting.{Lasting}
use Rattle.worker_stretches.specs.world_progress.Rounding.{IsOpen}
use Rattle.worker_stretches.specs.world_progress.Running.{so_far}
use Rattle.worker_stretches.proofs.world_progress.Running.{open_all}
use Rattle.worker_stretches.specs.event_engine.Shutting.{shutting_steps}
use Rattle.worker_rounds.specs.Laws.{RoundLaws}
use Rattle.worker_rounds.specs.Running.{LedFrom, MovesOn, Reaches, RunsOn, round_by}
use Rattle.worker_rounds.proofs.Through.{IsFree, IsRising, heard-run, led-run, parts-of-round, rising-by, rising-first, uses-run}
use Rattle.worker_rounds.proofs.Ticking.{open-by, open-first, run-joined, tick-round, ticks-of-first}
use Rattle.worker_stretches.specs.Standing.{Stands, beside_it}
use Rattle.worker_turns.specs.Carrying.{AreEmpty, IsSwept}

-- ---- boxes that are empty

all-taken : (row : List (Pass Mail)) (f : Packet → ℕ) → AreEmpty row → sent_in row f ≡ taken_in row f
all-taken [] f empty = refl
all-taken (p ∷ ps) f empty =
    let here = empty.0 (λ (s : Stamped Mail). weigh_mail f s.item) in
    let rest = all-taken ps f empty.1 in omega arith

none-held : (row : List (Pass Mail)) → AreEmpty row → (f : Packet → ℕ) → beside_it row [] f ≡ 0
none-held row empty f = let e = all-taken row f empty in omega arith

add-none : (a b : ℕ) → a ≡ 0 → a + b ≡ b
add-none a b none = omega arith

none-beside : (weight : (Packet → ℕ) → ℕ) → ((f : Packet → ℕ) → weight f ≡ 0) → (k : Known) → beside (waits weight) (station_of k) ≡ station_of k
none-beside weight none k = λ i. record {
  waiting = λ f. add-none (weight f) ((station_of k).waiting f) (none f) i;
  kept = λ e. add-none 0 ((station_of k).kept e) refl i;
  given = λ s j. add-none 0 ((station_of k).given s j) refl i;
}

module _ (t : Topology) (custom : Custom) (cut : Cut) (words : ℕ → ℕ → ℕ) (row : List (Pass Mail)) (empty : AreEmpty row) (h : History) (k : Known) where
  -- nothing waits beside a world in boxes that are empty
  pub led-alone : LedBeside t custom cut words (beside_it row []) h k → LedTo t custom cut words h k
  led-alone = subst (λ (all : Station). LedAt t custom cut words all h k) (none-beside (beside_it row []) (none-held row empty) k)

  led-beside : LedTo t custom cut words h k → LedBeside t custom cut words (beside_it row []) h k
  led-beside = subst (λ (all : Station). LedAt t custom cut words all h k) (sym (none-beside (beside_it row []) (none-held row empty) k))

-- ---- worlds with empty outboxes

free-swept : (t : Topology) (w : World) → IsOrderly t w → IsSwept w → IsFree t 0 0 w
free-swept t w orderly swept = record {
  task_count = orderly.task_count;
  acker_count = orderly.acker_count;
  tasks = λ n from. each-at (λ (side : TaskSide). side.outbox ≡ []) w.tasks n (no_task t) swept.tasks refl;
  ackers = λ n from. each-at (λ (side : AckerSide). side.outbox ≡ []) w.ackers n no_acker swept.ackers refl;
  orders = swept.orders;
}

-- ---- ticks of a round

no-tasks : (xs : List ℕ) (rest : List Step) → ticks_in (map of_task xs ++ rest) ≡ ticks_in rest
no-tasks [] rest = refl
no-tasks (x ∷ xs) rest = no-tasks xs rest

no-ackers : (xs : List ℕ) (rest : List Step) → ticks_in (map of_acker xs ++ rest) ≡ ticks_in rest
no-ackers [] rest = refl
no-ackers (x ∷ xs) rest = no-ackers xs rest

all-ticks : (n : ℕ) → ticks_in (replicate n of_tick ++ coordinator_steps) ≡ n
all-ticks zero = refl
all-ticks (suc n) = ap (λ (k : ℕ). suc k) (all-ticks n)

whole-ticks : (t : Topology) (n : ℕ) → ticks_in (round_with t n) ≡ n
whole-ticks t n =
    ap ticks_in (parts-of-round t n) ∙ no-tasks (range_with_len 0 (tasks_in_all t)) (map of_acker (range_with_len 0 t.ackers) ++ (replicate n of_tick ++ coordinator_steps))
    ∙ no-ackers (range_with_len 0 t.ackers) (replicate n of_tick ++ coordinator_steps) ∙ all-ticks n

pub ticks-of-round : (t : Topology) (shut n : ℕ) → ticks_in (round_by t shut n) ≡ n
ticks-of-round t shut n =
    let both = ticks-of-rounds (shutting_steps t.partitions shut) (round_with t n) in
    let none = ticks-of-first t shut in
    let all = whole-ticks t n in omega arith

-- ---- what happened by steps and further ones

module _ (t : Topology) (custom : Custom) (cut : Cut) (words : ℕ → ℕ → ℕ) (outcomes : List CommitOutcome) where
  joined-first : (xs ys : List Step) (h : History) (k : Known) → so_far t custom cut words outcomes (xs ++ ys) h k ≡ so_far t custom cut words outcomes ys (so_far t custom cut words outcomes xs h k) (run t custom cut words outcomes xs k)
  joined-first [] ys h k = refl
  joined-first (x ∷ xs) ys h k = joined-first xs ys (joined h (added t custom cut words x k)) (next t custom cut words outcomes x k)

-- ---- a first part of a round

module _ (t : Topology) (custom : Custom) (cut : Cut) (laws : RoundLaws t custom cut) (words : ℕ → ℕ → ℕ) (outcomes : List CommitOutcome) (row : List (Pass Mail)) (empty : AreEmpty row) (input : IsInput t cut) (keeps : IsCustom custom)
    (fine : All (IsOutcome t) outcomes) (h : History) (k : Known) (swept : IsSwept k.world) (stands : Stands t custom cut words outcomes row [] h k) where
  abbrev then : List Step → Known
  then steps = run t custom cut words outcomes steps k

  abbrev later : List Step → History
  later steps = so_far t custom cut words outcomes steps h k

  led : LedTo t custom cut words h k
  led = led-alone t custom cut words row empty h k stands.led

  -- what stood goes on to stand
  pub reaches-first : (steps : List Step) → IsRising t 0 0 steps → Reaches t custom cut words row (then steps).world
  reaches-first steps rising = record {
    history = later steps;
    counts = (then steps).counts;
    led = led-beside t custom cut words row empty (later steps) (then steps) (led-run t custom cut words outcomes (λ s h k led. laws.leads words outcomes s h k input keeps fine led) steps h k led);
    through = λ f. stands.through f ∙ sym (uses-run t custom cut words outcomes f 0 0 steps h k rising (free-swept t k.world led.orderly swept));
    heard = heard-run t custom cut words outcomes (λ s h k led. laws.leads words outcomes s h k input keeps fine led) (λ s h k led heard. laws.hears words outcomes s h k led heard) steps h k led stands.heard;
  }

  -- ---- a whole round

  module _ (shut ticks : ℕ) (on : is_over t cut k.world ≡ false) where
    abbrev steps : List Step
    steps = round_by t shut ticks

    tick : (then steps).world.tick ≡ min (k.world.tick + ticks) (2 ^ 64 - 1)
    tick = tick-round t custom cut words outcomes shut ticks k on led.last

    few-ticks : (then steps).world.tick < t.buckets → k.world.tick + ticks < t.buckets
    few-ticks few = let e = tick in let b = input.valid.buckets.1 in omega arith

    lasting : All (λ (how : CommitOutcome). how ≡ Done) outcomes → (then steps).world.tick < t.buckets → Lasting t custom cut words h k
    lasting all few =
        let f = few-ticks few in
        let was = stands.lasts all (omega arith) in record { led = led; seats = was.seats; whole = was.whole; fine = was.fine }

    pub stands-round : Stands t custom cut words outcomes row [] (later steps) (then steps)
    stands-round =
        record {
          led = led-beside t custom cut words row empty (later steps) (then steps) (led-run t custom cut words outcomes (λ s h k led. laws.leads words outcomes s h k input keeps fine led) steps h k led);
          through = λ f. stands.through f ∙ sym (uses-run t custom cut words outcomes f 0 0 steps h k (rising-by t shut ticks) (free-swept t k.world led.orderly swept));
          heard = heard-run t custom cut words outcomes (λ s h k led. laws.leads words outcomes s h k input keeps fine led) (λ s h k led heard. laws.hears words outcomes s h k led heard) steps h k led stands.heard;
          lasts = λ all few.
              let f = few-ticks few in
              let n = ticks-of-round t shut ticks in
              let is = (laws.lasts words outcomes steps h k input keeps all (lasting all few) (omega arith)).last in record { seats = is.seats; whole = is.whole; fine = is.fine };
        }

    -- no partition is shut after it where none was to be
    pub stays-open : (0 < t.partitions → shut ≡ 0) → IsOpen cut k.world → IsOpen cut (then steps).world
    stays-open none opened = open_all t custom cut words outcomes steps k (λ some. open-by t shut ticks none) opened

    -- it does something, where all is not over after it
    pub rose-round : (0 < t.partitions → shut ≡ 0) → IsOpen cut k.world → CanFinish t → All (λ (how : CommitOutcome). how ≡ Done) outcomes → (then steps).world.tick < t.buckets → (is_over t cut (then steps).world ≡ true → ⊥)
        → done h k.world + 1 ≤ done (later steps) (then steps).world
    rose-round none opened can all few open_end =
        let first : List Step = shutting_steps t.partitions shut in
        let n = ticks-of-first t shut in
        let f = few-ticks few in
        let begun = laws.lasts words outcomes first h k input keeps all (lasting all few) (omega arith) in
        let up = begun.more in
        let low = begun.tick in
        let world_is : then steps ≡ run t custom cut words outcomes (round_with t ticks) (then first) = run-joined t custom cut words outcomes first (round_with t ticks) k in
        let history_is : later steps ≡ so_far t custom cut words outcomes (round_with t ticks) (later first) (then first) = joined-first t custom cut words outcomes first (round_with t ticks) h k in
        let same : done (later steps) (then steps).world ≡ done (so_far t custom cut words outcomes (round_with t ticks) (later first) (then first)) (run t custom cut words outcomes (round_with t ticks) (then first)).world =
        (λ i. done (history_is i) (world_is i).world) in
        let does = (laws.does words outcomes ticks (later first) (then first) input keeps can all begun.last (omega arith)).1 (open_all t custom cut words outcomes first k (λ some. open-first t shut none) opened) in
        elim does [
          | inl over ↦ absurd (open_end (ap (λ (j : Known). is_over t cut j.world) world_is ∙ over))
          | inr more ↦ omega arith
        ]

-- ---- engines

module _ {I : Type 0} {g : Ghosts I} where
  -- whether all is over, as the plan and the cut tell it
  ended-there : (t : Topology) (cut : Cut) (e : Engine I g) → IsReady t cut e → has_ended e ≡ is_over t cut (shape e)
  ended-there t cut e ready = ap (λ (u : Topology). is_over u (cut_in e) (shape e)) ready.seated.of_topology ∙ ap (λ (c : Cut). is_over t c (shape e)) ready.seated.of_cut

  -- an engine counts the ticks of a round
  pub ticked : (tells : I → (ℕ → ℕ) → ℕ → Type 0) (t : Topology) (custom : Custom) (cut : Cut) (shut ticks : ℕ) (old new : Engine I g) → IsReady t cut old → has_ended old ≡ false → old.tick ≤ 2 ^ 64 - 1
      → Goes tells t custom cut (round_by t shut ticks) old new → new.tick ≡ min (old.tick + ticks) (2 ^ 64 - 1)
  ticked tells t custom cut shut ticks old new ready on low goes =
      let words : ℕ → ℕ → ℕ = λ s k. get_or (goes.given s) k 0 in
      let gives : Gives words (λ s. 0) goes.given = λ s. sym (fill_by_all (words s) (goes.given s) (length (goes.given s)) 0 refl (λ k below. refl)) in
      let outcomes = outcomes_of new.fates in
      let has : HasOutcomes outcomes new.fates = record { rest = []; first = sym (append-nil outcomes) } in
      let start : Known = record { world = shape old; counts = λ s. 0 } in
      sym (ap (λ (w : World). w.tick) (goes.runs words (λ s. 0) outcomes gives has).0) ∙ tick-round t custom cut words outcomes shut ticks start (sym (ended-there t cut old ready) ∙ on) low

module _ {I : Type 0} {g : Ghosts I} (tells : I → (ℕ → ℕ) → ℕ → Type 0) (t : Topology) (custom : Custom) (cut : Cut) (laws : RoundLaws t custom cut) (old new : Engine I g) (row : List (Pass Mail))
    (ready : IsReady t cut old) (swept : IsSwept (shape old)) (empty : AreEmpty row) (shut ticks : ℕ) where
  -- by a round an engine goes on, and does something where all is not over
  pub moves-round : IsReady t cut new → has_ended old ≡ false → old.tick ≤ 2 ^ 64 - 1 → Goes tells t custom cut (round_by t shut ticks) old new → MovesOn tells t custom cut (0 < t.partitions → shut ≡ 0) 1 old new row row
  moves-round ready_new on low goes = record {
    given = goes.given;
    draws = goes.draws;
    off = goes.none;
    more = goes.more;
    added = goes.added;
    ticks = (let e = ticked tells t custom cut shut ticks old new ready on low goes in omega arith);
    over = λ over. absurd (true≢false (sym over ∙ on));
    on = λ words counts outcomes gives has input keeps fine h stands.
        let k : Known = record { world = shape old; counts = counts } in
        let steps : List Step = round_by t shut ticks in
        let later : History = so_far t custom cut words outcomes steps h k in
        let then : Known = run t custom cut words outcomes steps k in
        let runs = goes.runs words counts outcomes gives has in
        let open_start : is_over t cut (shape old) ≡ false = sym (ended-there t cut old ready) ∙ on in record {
          history = later;
          now = then.counts;
          counted = runs.1;
          stands = subst (λ (w : World). Stands t custom cut words outcomes row [] later (record { world = w; counts = then.counts })) runs.0
              (stands-round t custom cut laws words outcomes row empty input keeps fine h k swept stands shut ticks open_start);
          open_on = λ none opened.
              subst (λ (w : World). IsOpen cut w) runs.0 (stays-open t custom cut laws words outcomes row empty input keeps fine h k swept stands shut ticks open_start none opened);
          rose = subst (λ (w : World). (0 < 1 → 0 < t.partitions → shut ≡ 0) → (0 < 1 → IsOpen cut (shape old)) → CanFinish t → All (λ (how : CommitOutcome). how ≡ Done) outcomes → w.tick < t.buckets → (has_ended new ≡ true → ⊥) → done h (shape old) + 1 ≤ done later w) runs.0
              (λ none opens can all few open_end.
              rose-round t custom cut laws words outcomes row empty input keeps fine h k swept stands shut ticks open_start (none (omega arith)) (opens (omega arith)) can all few
              (λ over. open_end (ended-there t cut new ready_new ∙ ap (λ (w : World). is_over t cut w) (sym runs.0) ∙ over)));
        };
  }

  -- what a first part of a round reached
  pub reaches-part : (first rest : List Step) → round_by t shut ticks ≡ first ++ rest → (goes : Goes tells t custom cut first old new) → LedFrom t custom cut goes.given old new row
  reaches-part first rest is goes = λ words counts outcomes gives has input keeps fine h stands.
      let k : Known = record { world = shape old; counts = counts } in
      subst (λ (w : World). Reaches t custom cut words row w) (goes.runs words counts outcomes gives has).0
      (reaches-first t custom cut laws words outcomes row empty input keeps fine h k swept stands first (rising-first t 0 0 first rest (subst (IsRising t 0 0) is (rising-by t shut ticks))))

  -- and its commits went through the parts
  pub runs-round : {S : Type 0} (holds : S → CellMap → Type 0) (count : S → ℕ) (was is : List (StatePart S)) → IsReady t cut new → has_ended old ≡ false → old.tick ≤ 2 ^ 64 - 1
      → Drives tells holds count t custom cut (round_by t shut ticks) old new was is → RunsOn tells holds count t custom cut (0 < t.partitions → shut ≡ 0) 1 old new row row was is
  unfolding moves-round
  runs-round holds count was is ready_new on low drives = record {
    goes = moves-round ready_new on low drives.goes;
    plans = drives.plans;
    outcomes = drives.outcomes;
    stands = λ words counts outcomes gives has input keeps good h stands.
        drives.stands words counts outcomes gives has input keeps good (h, led-alone t custom cut words row empty h (record { world = shape old; counts = counts }) stands.led);
    bad = drives.bad;
    strange = drives.strange;
    counted = drives.counted;
  }
