-- A run by rounds, from its start to its end.
use Rattle.std.proofs.Common.{◌≡◌, ℕ, Bool, true, false, cond, List, [], ◌∷◌, ◌++◌, drop, get_or, length, Option, None, Some, is_some, Result, Ok, Err, refl, sym, ap, subst, ◌∙◌, append-nil, true≢false}
use Rattle.std.specs.Prelude.{OnErr, OnOk}
use Rattle.std.specs.List.{AllByRecursion}
use Rattle.std.specs.Result.{IsErrAnd}
use Rattle.event_worlds.specs.attempt_fates.Fates.{IsOnce, committed}
use Rattle.event_worlds.specs.attempt_fates.declared.fates.Attempt.{Attempt}
use Rattle.event_worlds.specs.bolt_ops.RowOp.{Custom, IsCustom}
use Rattle.event_worlds.specs.commit_order.declared.stop.Stop.{Stop}
use Rattle.event_worlds.specs.commit_order.declared.stop.Stop.TheVariants as stop
use Rattle.event_worlds.specs.commit_turns.Turns.{is_finished, last_tick}
use Rattle.event_engine.specs.declared.engine.Engine.{Engine}
use Rattle.event_engine.specs.Engines.{Goes, IsReady, IsStill, cut_in, has_ended, shape, topology_in}
use Rattle.event_engine.specs.Starts.{IsStarted}
use Rattle.event_worlds.specs.Accounted.{IsInput}
use Rattle.event_worlds.specs.Worlds.{Step}
use Rattle.schedule_core.proofs.Drives.{wants-still}
use Rattle.schedule_core.proofs.Ending.{Ends, ends, ends_less, not_begun, ran-from}
use Rattle.schedule_core.proofs.Looping.{Driven, driven-breaks, driven-none, driven-then, driven-unfollowed, driven-wants}
use Rattle.schedule_core.proofs.Resting.{breaks_on, drives_on, quiet_parts, same_run_then, unfollowed_on, wants_on}
use Rattle.schedule_core.proofs.Rounding.{allows-between, asked-more, asked-none, asked_shut-more, asked_shut-none, before_round, one-round-more, rounds-open, turn_of}
use Rattle.schedule_core.specs.declared.ended.Ended.{Ended}
use Rattle.schedule_core.specs.declared.ended.Ended.TheVariants as ending
use Rattle.schedule_core.specs.Driving.{AreKept, Breaks, Drives, IsAtRest, IsOfSameRun, WantsMemory}
use Rattle.schedule_core.specs.Following.{StandLess, Unfollowed}
use Rattle.schedule_core.specs.Laws.{Laws, WorldLaws}
use Rattle.schedule_core.specs.Rounding.{Asked, AskedShut, Rounded, closing_steps, end_by, opening_steps}
use Rattle.schedule_core.specs.Runs.{HasRoundsOf, IsWork, RoundsCome, ended, first_answers, ticks_between}
use Rattle.schedule_core.specs.Schedules.{answer_by, answer_of}
use Rattle.schedule_core.specs.declared.fault.RunFault.{RunFault}
use Rattle.schedule_core.specs.declared.fault.RunFault.TheVariants as fault
use Rattle.event_worlds.specs.state_parts.declared.parts.StatePart.{StatePart}
use Rattle.event_worlds.specs.state_parts.PartPlans.{AreParts}
use Rattle.event_worlds.specs.storm_ids.declared.ids.Ids.{Ghosts}
use Rattle.storm_stores.specs.CellMaps.{CellMap}
use Rattle.storm_ticks.specs.Ticking.{first_answer, handed_on}
use Rattle.event_worlds.specs.topology_plan.Topology.{Topology}
use Rattle.event_worlds.specs.taken_records.Cuts.{Cut}

-- ---- the answer

-- the whole came to this, of what a source was asked and what the run ended with
pub rounds-come : {S T : Type 0} (handed : T → ℕ) (ticking : T → List ℕ → Type 0) (availing : List ℕ → Type 0) (told : (ℕ → ℕ → ℕ) → Type 0) (holds : S → CellMap → Type 0) (count : S → ℕ) (t : Topology) (custom : Custom) (cut : Cut) (answers shuts : List ℕ) (steps : List Step) (before after : T)
    (answer : Result (Unit {0}) Stop) (end : Result Ended Stop) (fates : List Attempt) (was is : List (StatePart S)) → Asked handed ticking answers before after → ((xs : List ℕ) → availing xs → shuts ≡ first_answers (length shuts) xs) → HasRoundsOf t answers shuts steps → end ≡ ended answer
    → Ends told holds count t custom cut steps (ticks_between (handed before) (handed after)) end fates was is → RoundsCome told (ticking before) availing holds count t custom cut (handed before) (handed after) answer fates was is
rounds-come handed ticking availing told holds count t custom cut answers shuts steps before after answer end fates was is asked asked_shut rounds same ends =
    let ends_so = subst (λ (r : Result Ended Stop). Ends told holds count t custom cut steps (ticks_between (handed before) (handed after)) r fates was is) same ends in record {
      answers = answers;
      handed_out = asked.handed_out;
      asked = asked.first;
      shuts = shuts;
      asked_shut = asked_shut;
      steps = steps;
      rounds = rounds;
      shut_none = rounds-open t availing answers shuts steps asked_shut rounds;
      comes = ends_so.comes;
      of_told = ends_so.told;
      drawn = ends_so.drawn;
    }

-- memory was wanted before anything was done
pub rounds-not-begun : {S T : Type 0} (handed : T → ℕ) (ticking : T → List ℕ → Type 0) (availing : List ℕ → Type 0) (told : (ℕ → ℕ → ℕ) → Type 0) (holds : S → CellMap → Type 0) (count : S → ℕ) (t : Topology) (custom : Custom) (cut : Cut) (laws : WorldLaws holds count t custom cut) (source : T) (fates : List Attempt) (parts : List (StatePart S))
    → IsInput t cut → fates ≡ [] → RoundsCome told (ticking source) availing holds count t custom cut (handed source) (handed source) (Err stop.Memory) fates parts parts
rounds-not-begun handed ticking availing told holds count t custom cut laws source fates parts input none =
    rounds-come handed ticking availing told holds count t custom cut [] [] [] source source (Err stop.Memory) (Err stop.Memory) fates parts parts (asked-none handed ticking source) (λ xs is. refl) refl refl (record {
      comes = not_begun holds count t custom cut laws [] (ticks_between (handed source) (handed source)) fates parts input none;
      told = λ words are ok. absurd ok;
      drawn = λ words are ok. absurd ok;
    })

-- ---- the end

-- where all is over and nothing stopped the run, all is committed
whole_by : (o : Option ℕ) (b : Bool) (n : ℕ) (how : Ended) → cond (is_some o) true b ≡ true → answer_by o b n ≡ Ok how → answer_by o b n ≡ Ok ending.All
whole_by (Some txid) b n how over is = absurd (let e : Err (stop.Exhausted txid) ≡ Ok how = is in cc)
whole_by None true n how over is = refl
whole_by None false n how over is = absurd (true≢false (sym over))

pub whole_end : {I : Type 0} {g : Ghosts I} (done : Result (Unit {0}) RunFault) (e : Engine I g) (end : Result Ended Stop) (how : Ended) → OnOk done (has_ended e ≡ true) → end ≡ end_by done (answer_of (topology_in e) (cut_in e) (shape e)) → end ≡ Ok how → end ≡ ended (Ok tt)
whole_end (Ok ok) e end how over is whole = is ∙ whole_by (shape e).desk.exhausted (is_finished (topology_in e) (cut_in e) (shape e).desk) (length (committed e.fates)) how over (sym is ∙ whole)
whole_end (Err (fault.BadCell key)) e end how over is whole = absurd (let a : end ≡ Err (stop.BadCell key) = is in let b = whole in cc)
whole_end (Err (fault.Follow txid)) e end how over is whole = absurd (let a : end ≡ Err (stop.Follow txid) = is in let b = whole in cc)
whole_end (Err fault.Memory) e end how over is whole = absurd (let a : end ≡ Err stop.Memory = is in let b = whole in cc)

-- an error is handed on
pub stopped_end : (end : Result Ended Stop) (answer : Result (Unit {0}) Stop) (error : Stop) → IsErrAnd answer (λ e. e ≡ error) → end ≡ Err error → end ≡ ended answer
stopped_end end (Ok ok) error exits is = absurd exits
stopped_end end (Err e) error exits is = is ∙ ap (λ (x : Stop). Err x) (sym exits)

-- ---- rounds

-- an error is no success
short_ok : (X : Type 0) (done : Result (Unit {0}) RunFault) (error : RunFault) → IsErrAnd done (λ e. e ≡ error) → OnOk done X
short_ok X (Ok ok) error exits = absurd exits
short_ok X (Err e) error exits = tt

-- want of memory is no bad cell
no_key : (done : Result (Unit {0}) RunFault) (error : RunFault) (key : List ℕ) → IsErrAnd done (λ e. e ≡ error) → error ≡ fault.Memory → done ≡ Err (fault.BadCell key) → ⊥
no_key (Ok ok) error key exits is bad = absurd exits
no_key (Err e) error key exits is bad = let a : e ≡ error = exits in cc

-- nor a fault of a follower
no_number : (done : Result (Unit {0}) RunFault) (error : RunFault) (txid : ℕ) → IsErrAnd done (λ e. e ≡ error) → error ≡ fault.Memory → done ≡ Err (fault.Follow txid) → ⊥
no_number (Ok ok) error txid exits is met = absurd exits
no_number (Err e) error txid exits is met = let a : e ≡ error = exits in cc

module _ {I S T V : Type 0} {g : Ghosts I} (tells : I → (ℕ → ℕ) → ℕ → Type 0) (holds : S → CellMap → Type 0) (count : S → ℕ) (handed : T → ℕ) (ticking : T → List ℕ → Type 0) (availing : V → List ℕ → Type 0) (custom : Custom) where
  -- rounds were carried out with these answers, and the next may come
  pub record Turning (old mid : Engine I g) (p q : List (StatePart S)) (before now : T) (first next : V) : Type 0 where
    pub answers : List ℕ
    pub asked : Asked handed ticking answers before now
    pub shuts : List ℕ
    pub asked_shut : AskedShut availing shuts first next
    pub steps : List Step
    pub rounds : HasRoundsOf (topology_in old) answers shuts steps
    pub driven : Driven tells holds count custom steps old mid p q

  module _ (old : Engine I g) (p : List (StatePart S)) (before : T) (first : V) (laws : (t : Topology) (cut : Cut) → Laws count t custom cut) where
    pub turning-none : IsAtRest old → AreParts (topology_in old) p → Turning old old p p before before first first
    turning-none rest are = record {
      answers = [];
      asked = asked-none handed ticking before;
      shuts = [];
      asked_shut = asked_shut-none availing first;
      steps = [];
      rounds = refl;
      driven = driven-none tells holds count custom old p (laws (topology_in old) (cut_in old)) rest are;
    }

    module _ (mid : Engine I g) (q : List (StatePart S)) (now : T) (next : V) (turning : Turning old mid p q before now first next) where
      -- memory was wanted before the source of ticks was asked
      pub turned-short : (done : Result (Unit {0}) RunFault) (error : RunFault) (b : Engine I g) → IsErrAnd done (λ e. e ≡ error) → error ≡ fault.Memory → IsStill mid b → Rounded tells holds count handed ticking availing (topology_in old) custom (cut_in old) done old b p q before now first
      turned-short done error b exits is still = record {
        answers = turning.answers;
        asked = turning.asked;
        shuts = turning.shuts;
        asked_shut = turning.asked_shut.first;
        steps = turning.steps;
        rounds = turning.rounds;
        drives = short_ok _ done error exits;
        bad = λ key bad. absurd (no_key done error key exits is bad);
        failed = λ txid met. absurd (no_number done error txid exits is met);
        short = λ met.
            driven-wants tells holds count custom old p (laws (topology_in old) (cut_in old)) turning.steps mid q turning.driven b.fates q
            (wants-still tells holds count (topology_in mid) custom (cut_in mid) (laws (topology_in mid) (cut_in mid)) mid b.fates q still.fates);
      }

      -- one source was asked, partitions were shut by it and a round was opened, and the other was asked
      module _ (b : Engine I g) (shut : ℕ) (after : V) (shut_told : (xs : List ℕ) → availing next xs → shut ≡ get_or xs 0 0) (shut_rest : (xs : List ℕ) → availing next xs → availing after (drop 1 xs)) (n : ℕ) (later : T)
          (events : List Step) (work : AllByRecursion IsWork events) (same : IsOfSameRun mid b) (goes : Goes tells (topology_in mid) custom (cut_in mid) (before_round shut events (topology_in mid) ++ opening_steps (topology_in mid)) mid b) (still : IsStill mid b)
          (counted : handed later ≡ handed_on (handed now) n) (answered : (xs : List ℕ) → ticking now xs → n ≡ first_answer xs) (rest : (xs : List ℕ) → ticking now xs → ticking later (drop 1 xs)) where
        module _ (c : Engine I g) (r : List (StatePart S)) where
          -- it was closed
          pub turning-then : IsAtRest c → IsOfSameRun b c → Drives tells holds count (topology_in b) custom (cut_in b) (closing_steps n) b c q r → AreKept holds q r → Turning old c p r before later first after
          turning-then at_rest same_on drives kept = record {
            answers = turning.answers ++ n ∷ [];
            asked = asked-more handed ticking turning.answers n before now later turning.asked counted answered rest;
            shuts = turning.shuts ++ shut ∷ [];
            asked_shut = asked_shut-more availing turning.shuts shut first next after turning.asked_shut shut_told shut_rest;
            steps = turning.steps ++ turn_of shut events n (topology_in old);
            rounds = one-round-more (topology_in old) turning.answers turning.shuts turning.steps shut events n work turning.rounds;
            driven =
                driven-then tells holds count custom old p (laws (topology_in old) (cut_in old)) turning.steps mid q turning.driven (turning.steps ++ turn_of shut events n (topology_in old)) (turn_of shut events n) c r
                refl at_rest (same_run_then mid b c same same_on)
                (subst (λ (steps : List Step). Drives tells holds count (topology_in mid) custom (cut_in mid) steps mid c q r) (quiet_parts (topology_in mid) (before_round shut events (topology_in mid)) n)
                (drives_on tells holds count custom (λ (u : Topology). before_round shut events u ++ opening_steps u) (λ (u : Topology). closing_steps n) mid b c q r (laws (topology_in mid) (cut_in mid)) same goes still drives)) kept;
          }

          -- or it met a fault
          pub turned-bad : (done : Result (Unit {0}) RunFault) (error : RunFault) → IsErrAnd done (λ e. e ≡ error)
              → ((key : List ℕ) → done ≡ Err (fault.BadCell key) → Breaks tells holds count (topology_in b) custom (cut_in b) (closing_steps n) key b c q r)
              → ((txid : ℕ) → done ≡ Err (fault.Follow txid) → Unfollowed tells holds count (topology_in b) custom (cut_in b) (closing_steps n) txid b c q r)
              → (done ≡ Err fault.Memory → WantsMemory tells holds count (topology_in b) custom (cut_in b) b c.fates q r)
              → Rounded tells holds count handed ticking availing (topology_in old) custom (cut_in old) done old c p r before later first
          turned-bad done error exits bad failed short = record {
            answers = turning.answers ++ n ∷ [];
            asked = asked-more handed ticking turning.answers n before now later turning.asked counted answered rest;
            shuts = turning.shuts ++ shut ∷ [];
            asked_shut = (asked_shut-more availing turning.shuts shut first next after turning.asked_shut shut_told shut_rest).first;
            steps = turning.steps ++ turn_of shut events n (topology_in old);
            rounds = one-round-more (topology_in old) turning.answers turning.shuts turning.steps shut events n work turning.rounds;
            drives = short_ok _ done error exits;
            bad = λ key is.
                driven-breaks tells holds count custom old p (laws (topology_in old) (cut_in old)) turning.steps mid q turning.driven (turning.steps ++ turn_of shut events n (topology_in old)) [] (turn_of shut events n) key c r
                (sym (append-nil (turning.steps ++ turn_of shut events n (topology_in old))))
                (subst (λ (steps : List Step). Breaks tells holds count (topology_in mid) custom (cut_in mid) steps key mid c q r) (quiet_parts (topology_in mid) (before_round shut events (topology_in mid)) n)
                (breaks_on tells holds count custom (λ (u : Topology). before_round shut events u ++ opening_steps u) (λ (u : Topology). closing_steps n) mid b c q r (laws (topology_in mid) (cut_in mid)) same goes still key (bad key is)));
            failed = λ txid is.
                driven-unfollowed tells holds count custom old p (laws (topology_in old) (cut_in old)) turning.steps mid q turning.driven (turning.steps ++ turn_of shut events n (topology_in old)) [] (turn_of shut events n) txid c r
                (sym (append-nil (turning.steps ++ turn_of shut events n (topology_in old))))
                (subst (λ (steps : List Step). Unfollowed tells holds count (topology_in mid) custom (cut_in mid) steps txid mid c q r) (quiet_parts (topology_in mid) (before_round shut events (topology_in mid)) n)
                (unfollowed_on tells holds count custom (λ (u : Topology). before_round shut events u ++ opening_steps u) (λ (u : Topology). closing_steps n) mid b c q r (laws (topology_in mid) (cut_in mid)) same goes still txid (failed txid is)));
            short = λ is.
                driven-wants tells holds count custom old p (laws (topology_in old) (cut_in old)) turning.steps mid q turning.driven c.fates r
                (wants_on tells holds count custom (λ (u : Topology). before_round shut events u ++ opening_steps u) mid b c.fates q r (laws (topology_in mid) (cut_in mid)) same goes still (short is));
          }

-- ---- the whole

module _ {I S T V : Type 0} {g : Ghosts I} (told : (ℕ → ℕ → ℕ) → Type 0) (tells : I → (ℕ → ℕ) → ℕ → Type 0) (holds : S → CellMap → Type 0) (count : S → ℕ) (handed : T → ℕ) (ticking : T → List ℕ → Type 0) (availing : V → List ℕ → Type 0) (t : Topology) (custom : Custom) (cut : Cut)
    (laws : WorldLaws holds count t custom cut) (input : IsInput t cut) (keeps : IsCustom custom) where
  -- what a run by rounds comes to whose steps came to this
  pub rounds-end : (done : Result (Unit {0}) RunFault) (e0 e : Engine I g) (was is : List (StatePart S)) (before after : T) (avail : V) (answer : Result (Unit {0}) Stop) (end : Result Ended Stop) (fates : List Attempt)
      → IsReady t cut e0 → IsStarted told tells t cut e0 → AreParts t was → OnOk done (IsOfSameRun e0 e)
      → Rounded tells holds count handed ticking availing (topology_in e0) custom (cut_in e0) done e0 e was is before after avail
      → OnErr done (IsOnce (cut_in e0) last_tick e.fates) → AreKept holds was is
      → end ≡ end_by done (answer_of (topology_in e) (cut_in e) (shape e)) → fates ≡ e.fates → end ≡ ended answer
      → RoundsCome told (ticking before) (availing avail) holds count t custom cut (handed before) (handed after) answer fates was is
  rounds-end done e0 e was is before after avail answer end fates ready started planned same rounded once kept end_is fates_are answer_is =
      let ticks : ℕ = ticks_between (handed before) (handed after) in
      let rounds : HasRoundsOf t rounded.answers rounded.shuts rounded.steps = subst (λ (u : Topology). HasRoundsOf u rounded.answers rounded.shuts rounded.steps) ready.seated.of_topology rounded.rounds in
      let ran = ran-from told tells holds count t custom cut laws input keeps (λ (u : Topology). rounded.steps) ticks done e0 e was is ready started planned (allows-between t rounded.answers rounded.shuts rounded.steps (handed before) (handed after) rounds rounded.asked.handed_out) same rounded.drives rounded.bad rounded.failed rounded.short once kept in
      let ends_so = ends told tells holds count t custom cut laws input keeps rounded.steps ticks done e0 e was is end fates ran end_is fates_are in
      rounds-come handed ticking (availing avail) told holds count t custom cut rounded.answers rounded.shuts rounded.steps before after answer end fates was is rounded.asked rounded.asked_shut rounds answer_is ends_so

  -- and where parts stand too whose follower failed
  pub rounds-less : (txid : ℕ) (done : Result (Unit {0}) RunFault) (e0 e : Engine I g) (was is : List (StatePart S)) (before after : T) (avail : V) (answer : Result (Unit {0}) Stop) (end : Result Ended Stop) (fates : List Attempt)
      → IsReady t cut e0 → IsStarted told tells t cut e0 → AreParts t was → OnOk done (IsOfSameRun e0 e)
      → Rounded tells holds count handed ticking availing (topology_in e0) custom (cut_in e0) done e0 e was is before after avail
      → OnErr done (IsOnce (cut_in e0) last_tick e.fates) → AreKept holds was is
      → end ≡ end_by done (answer_of (topology_in e) (cut_in e) (shape e)) → fates ≡ e.fates → end ≡ ended answer
      → answer ≡ Err (stop.Follow txid) → StandLess holds t custom cut fates was is
  rounds-less txid done e0 e was is before after avail answer end fates ready started planned same rounded once kept end_is fates_are answer_is failed =
      let ticks : ℕ = ticks_between (handed before) (handed after) in
      let rounds : HasRoundsOf t rounded.answers rounded.shuts rounded.steps = subst (λ (u : Topology). HasRoundsOf u rounded.answers rounded.shuts rounded.steps) ready.seated.of_topology rounded.rounds in
      let ran = ran-from told tells holds count t custom cut laws input keeps (λ (u : Topology). rounded.steps) ticks done e0 e was is ready started planned (allows-between t rounded.answers rounded.shuts rounded.steps (handed before) (handed after) rounds rounded.asked.handed_out) same rounded.drives rounded.bad rounded.failed rounded.short once kept in
      let met : end ≡ Err (stop.Follow txid) = answer_is ∙ ap ended failed in
      ends_less told tells holds count t custom cut laws input keeps rounded.steps ticks txid done e0 e was is end fates ran end_is fates_are met
