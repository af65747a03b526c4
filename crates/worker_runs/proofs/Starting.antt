-- What stands where a run of workers begins, and what it has come to by words.
use Rattle.std.proofs.Common.{◌≡◌, ℕ, zero, suc, ◌+◌, List, [], ◌++◌, All, length, map, None, Some, slice_get, refl, sym, ap, subst, ◌∙◌, append-nil, length-append, arith}
use Rattle.std.proofs.lemmas.List.Elements.{All-nil}
use Rattle.std.specs.Prelude.{replicate}
use Rattle.std.specs.List.{AllByRecursion, range_with_len}
use Rattle.event_worlds.specs.attempt_fates.declared.fates.Attempt.{Attempt}
use Rattle.worker_rounds.specs.batch_commits.Standing.{FailuresAreCounted}
use Rattle.event_worlds.specs.bolt_ops.RowOp.{Custom, IsCustom}
use Rattle.worker_stretches.specs.box_account.Inboxes.{weigh_acker_inboxes, weigh_inboxes, weigh_task_inboxes}
use Rattle.worker_stretches.specs.box_rows.declared.mail.Mail.{Mail}
use Rattle.worker_stretches.specs.box_rows.FirstRow.{first_views}
use Rattle.event_worlds.specs.commit_turns.Kept.{HaveSpans}
use Rattle.event_worlds.specs.commit_turns.Outcomes.{IsOutcome}
use Rattle.worker_stretches.proofs.event_engine.GoesLemmas.{draws-then, gives-parts}
use Rattle.worker_stretches.proofs.event_engine.WorldLemmas.{told_gives, words_begin}
use Rattle.worker_stretches.specs.event_engine.declared.engine.Engine.{Engine}
use Rattle.worker_stretches.specs.event_engine.Engines.{Gives, HasOutcomes, shape, sources}
use Rattle.worker_stretches.specs.event_engine.Starts.{IsStarted}
use Rattle.event_worlds.specs.Accounted.{IsInput}
use Rattle.event_worlds.specs.Added.{first_history}
use Rattle.event_worlds.specs.Worlds.{AckerSide, Known, TaskSide, World, first_counts, first_known, first_task, first_world, no_acker, outcomes_of}
use Rattle.event_worlds.specs.output_collector.Draws.{Draws}
use Rattle.worker_rounds.proofs.schedule_core.Drives.{stands-then}
use Rattle.worker_rounds.proofs.schedule_core.Going.{led-beside}
use Rattle.worker_rounds.specs.schedule_core.Driving.{HasCome, LeadsOn, StandOn}
use Rattle.worker_rounds.specs.schedule_core.Laws.{Laws}
use Rattle.event_worlds.specs.state_parts.declared.answer.CommitOutcome.{CommitOutcome}
use Rattle.event_worlds.specs.state_parts.declared.parts.StatePart.{StatePart}
use Rattle.event_worlds.specs.state_parts.PartPlans.{AreParts}
use Rattle.event_worlds.specs.storm_ids.declared.ids.Ids.{Ghosts}
use Rattle.storm_stores.specs.CellMaps.{CellMap}
use Rattle.task_queues.specs.declared.pass.Pass.{Pass}
use Rattle.task_queues.specs.Passes.{view_of}
use Rattle.event_worlds.specs.topology_plan.Topology.{Topology, tasks_in_all}
use Rattle.event_worlds.specs.taken_records.Cuts.{Cut}
use Rattle.event_worlds.specs.tuple_account.Histories.{Packet}
use Rattle.worker_rounds.specs.Running.{HasOffered, IsOffered, RunsOn}
use Rattle.worker_runs.proofs.Few.{led-here}
use Rattle.worker_rounds.proofs.Going.{gives-next}
use Rattle.worker_runs.proofs.Rows.{first-empty, none-held, none-taken}
use Rattle.worker_runs.specs.Going.{StoodAt}
use Rattle.worker_runs.specs.Laws.{RunLaws}
use Rattle.worker_stretches.specs.Standing.{Stands, beside_it}
use Rattle.worker_rounds.specs.worker_turns.Carrying.{AreEmpty, IsSwept}
use Rattle.worker_stretches.specs.world_progress.Rounding.{IsOpen}

-- ---- the first world

no-tuples : (t : Topology) (words : ℕ → ℕ → ℕ) (f : Packet → ℕ) (at a n : ℕ) → weigh_task_inboxes f at (map (first_task t words) (range_with_len a n)) ≡ 0
no-tuples t words f at a zero = refl
no-tuples t words f at a (suc n) = let rest = no-tuples t words f (at + 1) (a + 1) n in omega arith

no-messages : (f : Packet → ℕ) (at n : ℕ) → weigh_acker_inboxes f at (replicate n no_acker) ≡ 0
no-messages f at zero = refl
no-messages f at (suc n) = let rest = no-messages f (at + 1) n in omega arith

-- nothing stands in an inbox
pub no-inboxes : (t : Topology) (cut : Cut) (words : ℕ → ℕ → ℕ) (f : Packet → ℕ) → weigh_inboxes f (first_world t cut words) ≡ 0
no-inboxes t cut words f = let a = no-tuples t words f 0 0 (tasks_in_all t) in let b = no-messages f 0 t.ackers in omega arith

swept-tasks : (t : Topology) (words : ℕ → ℕ → ℕ) (a n : ℕ) → AllByRecursion (λ (side : TaskSide). side.outbox ≡ []) (map (first_task t words) (range_with_len a n))
swept-tasks t words a zero = tt
swept-tasks t words a (suc n) = (refl, swept-tasks t words (a + 1) n)

swept-ackers : (n : ℕ) → AllByRecursion (λ (side : AckerSide). side.outbox ≡ []) (replicate n no_acker)
swept-ackers zero = tt
swept-ackers (suc n) = (refl, swept-ackers n)

-- nothing is to be handed over in it
pub swept-first : (t : Topology) (cut : Cut) (words : ℕ → ℕ → ℕ) → IsSwept (first_world t cut words)
swept-first t cut words = record { tasks = swept-tasks t words 0 (tasks_in_all t); ackers = swept-ackers t.ackers; orders = refl }

module _ (t : Topology) (custom : Custom) (cut : Cut) (laws : RunLaws t custom cut) (input : IsInput t cut) (row : List (Pass Mail)) (first : map view_of row ≡ first_views t) where
  -- what stands in it beside the boxes that were made
  pub stands-first : (words : ℕ → ℕ → ℕ) (outcomes : List CommitOutcome) → Stands t custom cut words outcomes row [] (first_history t words) (first_known t cut words)
  stands-first words outcomes =
      let lasting = laws.lasting words input in record {
        led = led-beside t custom cut words (beside_it row []) (λ f. let e = none-held row (first-empty t row first) f in omega arith) (first_history t words) (first_known t cut words) lasting.led;
        through = λ f. let a = none-taken t row first f in let b = no-inboxes t cut words f in omega arith;
        heard = laws.heard words;
        lasts = λ all few. record { seats = lasting.seats; whole = lasting.whole; fine = lasting.fine };
      }

-- ---- an engine that was started

module _ {I : Type 0} {g : Ghosts I} (told : (ℕ → ℕ → ℕ) → Type 0) (tells : I → (ℕ → ℕ) → ℕ → Type 0) (t : Topology) (cut : Cut) (e0 : Engine I g) (started : IsStarted told tells t cut e0) where
  -- it is the first world by some words
  pub some-first : (words : ℕ → ℕ → ℕ) × (shape e0 ≡ first_world t cut words)
  some-first = let all = words_begin told tells t cut e0 started (λ s. []) in (all.0, started.first all.0 all.1)

  pub swept-start : IsSwept (shape e0)
  swept-start = let some = some-first in subst IsSwept (sym some.1) (swept-first t cut some.0)

  pub no-tick : e0.tick ≡ 0
  no-tick = ap (λ (w : World). w.tick) some-first.1

  -- no partition is shut
  pub open-start : IsOpen cut (shape e0)
  open-start = λ some. ap (λ (w : World). w.shut) some-first.1

  pub no-fates : e0.fates ≡ []
  no-fates = ap (λ (w : World). w.fates) some-first.1

  -- nothing was offered
  pub offered-start : (partitions : ℕ) → HasOffered partitions [] e0
  offered-start partitions =
      let first : first_world t cut some-first.0 ≡ shape e0 = sym some-first.1 in
      subst (λ (w : World). HaveSpans (λ root spans. IsOffered partitions [] spans) w.desk w.fates) first (record { waits = tt; ends = tt })

  module _ {S : Type 0} (holds : S → CellMap → Type 0) (count : S → ℕ) (custom : Custom) (run_laws : RunLaws t custom cut) (steps : Laws count t custom cut) (input : IsInput t cut) (keeps : IsCustom custom)
      (row : List (Pass Mail)) (first : map view_of row ≡ first_views t) (was : List (StatePart S)) (planned : AreParts t was) where
    no-outcomes : All (IsOutcome t) (outcomes_of e0.fates)
    no-outcomes = subst (λ (fs : List Attempt). All (IsOutcome t) (outcomes_of fs)) (sym no-fates) (All-nil (IsOutcome t))

    -- all stood at it, by words that begin with its first ones
    pub stands-start : (words : ℕ → ℕ → ℕ) (outcomes : List CommitOutcome) → Gives words (λ s. 0) started.given → Stands t custom cut words outcomes row [] (first_history t words) (record { world = shape e0; counts = first_counts t words })
    stands-start words outcomes begins =
        subst (λ (w : World). Stands t custom cut words outcomes row [] (first_history t words) (record { world = w; counts = first_counts t words })) (sym (started.first words begins))
        (stands-first t custom cut run_laws input row first words outcomes)

    module _ (none : Type 0) (n : ℕ) (e : Engine I g) (now_row : List (Pass Mail)) (is : List (StatePart S)) (runs : RunsOn tells holds count t custom cut none n e0 e row now_row was is) where
      pub good-now : All (IsOutcome t) (outcomes_of e.fates)
      good-now = runs.outcomes planned no-outcomes

      -- it went on from where all stood, by words that begin with what was given
      pub stood-start : (words : ℕ → ℕ → ℕ) (outcomes : List CommitOutcome) → Gives words (λ s. 0) started.given → Gives words (first_counts t words) runs.goes.given → HasOutcomes outcomes e.fates → All (IsOutcome t) outcomes
          → StoodAt tells t custom cut none outcomes n e0 e row now_row runs.goes
      stood-start words outcomes begins gives has good = record {
        words = words;
        counts = first_counts t words;
        history = first_history t words;
        gives = gives;
        has = has;
        input = input;
        keeps = keeps;
        good = good;
        stands = stands-start words outcomes begins;
      }

    -- ---- what a run has come to

    -- by these words, where sources gave this after their first ones
    pub record CameAt (words : ℕ → ℕ → ℕ) (given : ℕ → List ℕ) (e : Engine I g) (is : List (StatePart S)) : Type 0 where
      pub come : HasCome holds count t custom cut words e was is
      pub counted : (s : ℕ) → come.counts s ≡ first_counts t words s + length (given s)
      pub good : All (IsOutcome t) (outcomes_of e.fates)

    -- by all words that begin with what sources gave
    pub record CameBy (e : Engine I g) (is : List (StatePart S)) : Type 0 where
      pub given : ℕ → List ℕ
      pub draws : (s : ℕ) (source : I) → slice_get (sources e0) s ≡ Some source → (then : I) × (slice_get (sources e) s ≡ Some then) × Draws tells source (given s) then
      pub none : (s : ℕ) → slice_get (sources e0) s ≡ None → (given s ≡ []) × (slice_get (sources e) s ≡ None)
      pub by : (words : ℕ → ℕ → ℕ) → Gives words (λ s. 0) started.given → Gives words (first_counts t words) given → CameAt words given e is

    -- by some words
    pub came-some : (e : Engine I g) (is : List (StatePart S)) → CameBy e is → (words : ℕ → ℕ → ℕ) × HasCome holds count t custom cut words e was is
    came-some e is came = let all = words_begin told tells t cut e0 started came.given in (all.0, (came.by all.0 all.1 all.2).come)

    -- and by those that are told
    pub came-told : (e : Engine I g) (is : List (StatePart S)) → CameBy e is → (words : ℕ → ℕ → ℕ) → told words → HasCome holds count t custom cut words e was is
    came-told e is came words are = (came.by words (started.gives words are) (told_gives told tells t cut e0 started came.given e came.draws came.none words are)).come

    -- rounds and stretches came to an engine with empty boxes
    pub came-runs : (none : Type 0) (n : ℕ) (e : Engine I g) (now_row : List (Pass Mail)) (is : List (StatePart S)) → RunsOn tells holds count t custom cut none n e0 e row now_row was is → AreEmpty now_row → CameBy e is
    came-runs none n e now_row is runs empty = record {
      given = runs.goes.given;
      draws = runs.goes.draws;
      none = runs.goes.off;
      by = λ words begins gives.
          let outcomes = outcomes_of e.fates in
          let has : HasOutcomes outcomes e.fates = record { rest = []; first = sym (append-nil outcomes) } in
          let good = good-now none n e now_row is runs in
          let stands = stands-start words outcomes begins in
          let later = runs.goes.on words (first_counts t words) outcomes gives has input keeps good (first_history t words) stands in
          let k : Known = record { world = shape e; counts = later.now } in record {
            come = record {
              counts = later.now;
              led = (later.history, led-here t custom cut words outcomes now_row later.history k empty later.stands);
              planned = planned;
              plans = runs.plans;
              stands = subst (λ (fs : List Attempt). StandOn holds t custom cut fs e.fates was is) no-fates (runs.stands words (first_counts t words) outcomes gives has input keeps good (first_history t words) stands planned);
              strange = runs.strange;
              counted = subst (λ (xs : List Attempt). FailuresAreCounted count xs was is) (sym (runs.goes.added ∙ ap (λ (fs : List Attempt). fs ++ runs.goes.more) no-fates)) runs.counted;
            };
            counted = later.counted;
            good = good;
          };
    }

    -- and steps followed
    pub came-then : (mid e : Engine I g) (q is : List (StatePart S)) → CameBy mid q → LeadsOn tells holds count t custom cut mid e q is → CameBy e is
    came-then mid e q is came on = record {
      given = λ s. came.given s ++ on.given s;
      draws = λ s source at.
          let d = came.draws s source at in
          let f = on.draws s d.0 d.1 in (f.0, f.1, draws-then tells source d.0 f.0 (came.given s) (on.given s) d.2 f.2);
      none = λ s off.
          let one = came.none s off in
          let two = on.none s one.1 in ((λ i. one.0 i ++ two.0 i), two.1);
      by = λ words begins gives.
          let parts = gives-parts words (first_counts t words) came.given on.given gives in
          let at = came.by words begins parts.0 in
          let outcomes = outcomes_of e.fates in
          let has : HasOutcomes outcomes e.fates = record { rest = []; first = sym (append-nil outcomes) } in
          let good = on.outcomes (at.come.plans ∙ planned) at.good in
          let gives_on = gives-next words (first_counts t words) at.come.counts came.given on.given at.counted parts.1 in record {
            come = record {
              counts = λ s. at.come.counts s + length (on.given s);
              led = on.led words at.come.counts outcomes gives_on has input keeps good at.come.led;
              planned = planned;
              plans = on.plans ∙ at.come.plans;
              stands = stands-then holds t custom cut [] mid.fates e.fates was q is at.come.stands (on.stands words at.come.counts outcomes gives_on has input keeps good at.come.led (at.come.plans ∙ planned));
              strange = λ key found. at.come.strange key (on.strange key found);
              counted = subst (λ (xs : List Attempt). FailuresAreCounted count xs was is) (sym on.added) (steps.counts_then mid.fates on.more was q is at.come.plans at.come.counted on.counted);
            };
            counted = λ s. let a = at.counted s in let l = length-append (came.given s) (on.given s) in omega arith;
            good = good;
          };
    }
