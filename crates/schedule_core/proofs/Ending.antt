-- What the run of an engine that was started and went through steps comes to.
use Rattle.std.proofs.Common.{◌≡◌, ◌≤◌, ℕ, ◌+◌, List, [], Result, Ok, Err, refl, sym, ap, subst, ◌∙◌, append-nil, arith}
use Rattle.std.specs.Prelude.{OnErr, OnOk}
use Rattle.std.specs.List.{AllByRecursion}
use Rattle.event_worlds.specs.attempt_fates.Fates.{IsOnce}
use Rattle.event_worlds.specs.attempt_fates.declared.fates.Attempt.{Attempt}
use Rattle.event_worlds.specs.bolt_ops.RowOp.{Custom, IsCustom}
use Rattle.event_worlds.specs.commit_order.declared.stop.Stop.{Stop}
use Rattle.event_worlds.specs.commit_order.declared.stop.Stop.TheVariants as stop
use Rattle.event_worlds.specs.commit_turns.Turns.{last_tick}
use Rattle.event_engine.proofs.WorldLemmas.{from_start, some_words, told_world}
use Rattle.event_engine.specs.declared.engine.Engine.{Engine}
use Rattle.event_engine.specs.Engines.{Goes, HasOutcomes, IsIdle, IsReady, cut_in, shape, topology_in}
use Rattle.event_engine.specs.Starts.{IsStarted}
use Rattle.event_worlds.specs.Accounted.{AreCaused, IsInput}
use Rattle.event_worlds.specs.Rounds.{ticks_in}
use Rattle.event_worlds.specs.Worlds.{Step, World, first_known, outcomes_of, world_after}
use Rattle.schedule_core.proofs.Going.{leads-drives}
use Rattle.schedule_core.proofs.Telling.{WentOn, answer_then, less_at_end, tells_at_end, tells_not_begun}
use Rattle.schedule_core.proofs.TicksOfRuns.{run-tick, ticks-of-rounds}
use Rattle.schedule_core.specs.declared.ended.Ended.{Ended}
use Rattle.schedule_core.specs.Driving.{AreKept, Breaks, Drives, IsAtRest, IsOfSameRun, WantsMemory}
use Rattle.schedule_core.specs.Following.{StandLess, Unfollowed}
use Rattle.schedule_core.specs.Laws.{WorldLaws}
use Rattle.schedule_core.specs.Rounding.{end_by}
use Rattle.schedule_core.specs.Runs.{RunComes}
use Rattle.schedule_core.specs.Schedules.{HadMemory, IsAnswer, IsOfWorld, answer_of}
use Rattle.schedule_reader.specs.Events.{FitsEvent}
use Rattle.schedule_reader.specs.declared.event.Event.{Event}
use Rattle.schedule_core.specs.declared.fault.RunFault.{RunFault}
use Rattle.schedule_core.specs.declared.fault.RunFault.TheVariants as fault
use Rattle.event_worlds.specs.state_parts.declared.parts.StatePart.{StatePart}
use Rattle.event_worlds.specs.state_parts.PartPlans.{AreParts}
use Rattle.event_worlds.specs.storm_ids.declared.ids.Ids.{Ghosts}
use Rattle.storm_stores.specs.CellMaps.{CellMap}
use Rattle.event_worlds.specs.topology_plan.Topology.{Topology}
use Rattle.event_worlds.specs.taken_records.Cuts.{Cut}

-- so many ticks are as many as the coordinator may count in these steps
abbrev pub Allows : List Step → ℕ → Type 0
Allows whole ticks = (n : ℕ) → n ≤ ticks_in whole → n ≤ last_tick → n ≤ ticks

-- what the answer and the fates of a run come to, also over sources that tell their words
pub record Ends {S : Type 0} (words_are : (ℕ → ℕ → ℕ) → Type 0) (holds : S → CellMap → Type 0) (count : S → ℕ) (t : Topology) (custom : Custom) (cut : Cut) (whole : List Step) (ticks : ℕ)
    (answer : Result Ended Stop) (fates : List Attempt) (was is : List (StatePart S)) : Type 0 where
  pub comes : RunComes holds count t custom cut whole ticks answer fates was is
  pub told : (words : ℕ → ℕ → ℕ) → words_are words → IsAnswer answer → IsOfWorld t custom cut words whole answer fates
  pub drawn : (words : ℕ → ℕ → ℕ) → words_are words → HadMemory answer → AreCaused t custom cut ticks words fates

-- memory was wanted before anything was done
pub not_begun : {S : Type 0} (holds : S → CellMap → Type 0) (count : S → ℕ) (t : Topology) (custom : Custom) (cut : Cut) (laws : WorldLaws holds count t custom cut) (steps : List Step) (ticks : ℕ) (fates : List Attempt) (parts : List (StatePart S))
    → IsInput t cut → fates ≡ [] → RunComes holds count t custom cut steps ticks (Err stop.Memory) fates parts parts
not_begun holds count t custom cut laws steps ticks fates parts input none = record {
  tells = tells_not_begun holds count t custom cut laws ticks fates parts input none;
  of_world = λ ok. absurd ok;
}

on_ok : {A E P Q : Type 0} (r : Result A E) → (P → Q) → OnOk r P → OnOk r Q
on_ok (Ok a) f p = f p
on_ok (Err e) f p = p

module _ {I S : Type 0} {g : Ghosts I} (told : (ℕ → ℕ → ℕ) → Type 0) (tells : I → (ℕ → ℕ) → ℕ → Type 0) (holds : S → CellMap → Type 0) (count : S → ℕ) (t : Topology) (custom : Custom) (cut : Cut)
    (laws : WorldLaws holds count t custom cut) (input : IsInput t cut) (keeps : IsCustom custom) where
  -- the world that steps led to, by some words
  some_world : (steps : List Step) (e0 e : Engine I g) → IsStarted told tells t cut e0 → Goes tells t custom cut steps e0 e → (words : ℕ → ℕ → ℕ) × (shape e ≡ world_after t custom cut words (outcomes_of e.fates) steps)
  some_world steps e0 e started goes =
      let are = some_words told tells t custom cut steps e0 e started goes in
      let outcomes = outcomes_of e.fates in
      let has : HasOutcomes outcomes e.fates = record { rest = []; first = sym (append-nil outcomes) } in
      (are.0, from_start told tells t custom cut steps e0 e started goes are.0 outcomes are.1 are.2 has)

  -- it had no more ticks than there were among them
  few_ticks : (steps : List Step) (e0 e : Engine I g) → IsStarted told tells t cut e0 → Goes tells t custom cut steps e0 e → (shape e).tick ≤ ticks_in steps
  few_ticks steps e0 e started goes =
      let w = some_world steps e0 e started goes in
      let same : (shape e).tick ≡ (world_after t custom cut w.0 (outcomes_of e.fates) steps).tick = ap (λ (v : World). v.tick) w.1 in
      let none : (first_known t cut w.0).world.tick ≡ 0 = refl in
      let most = run-tick t custom cut w.0 (outcomes_of e.fates) steps (first_known t cut w.0) in omega arith

  -- ---- how a run ends

  -- An engine was started, and was to go through all these steps; what was carried out came to this.
  pub record Ran (whole : List Step) (ticks : ℕ) (done : Result (Unit {0}) RunFault) (e0 e : Engine I g) (was is : List (StatePart S)) : Type 0 where
    pub ready : IsReady t cut e0
    pub started : IsStarted told tells t cut e0
    pub planned : AreParts t was
    pub allows : Allows whole ticks
    pub same_run : OnOk done (IsOfSameRun e0 e)
    pub drives : OnOk done (Drives tells holds count t custom cut whole e0 e was is)
    pub bad : (key : List ℕ) → done ≡ Err (fault.BadCell key) → Breaks tells holds count t custom cut whole key e0 e was is
    pub failed : (txid : ℕ) → done ≡ Err (fault.Follow txid) → Unfollowed tells holds count t custom cut whole txid e0 e was is
    pub short : done ≡ Err fault.Memory → WantsMemory tells holds count t custom cut e0 e.fates was is
    pub once : OnErr done (IsOnce cut last_tick e.fates)
    pub kept : AreKept holds was is

  -- what is so for the engine's own plan and input is so for these
  pub ran-from : (steps : Topology → List Step) (ticks : ℕ) (done : Result (Unit {0}) RunFault) (e0 e : Engine I g) (was is : List (StatePart S)) → IsReady t cut e0 → IsStarted told tells t cut e0 → AreParts t was → Allows (steps t) ticks
      → OnOk done (IsOfSameRun e0 e) → OnOk done (Drives tells holds count (topology_in e0) custom (cut_in e0) (steps (topology_in e0)) e0 e was is)
      → ((key : List ℕ) → done ≡ Err (fault.BadCell key) → Breaks tells holds count (topology_in e0) custom (cut_in e0) (steps (topology_in e0)) key e0 e was is)
      → ((txid : ℕ) → done ≡ Err (fault.Follow txid) → Unfollowed tells holds count (topology_in e0) custom (cut_in e0) (steps (topology_in e0)) txid e0 e was is)
      → (done ≡ Err fault.Memory → WantsMemory tells holds count (topology_in e0) custom (cut_in e0) e0 e.fates was is)
      → OnErr done (IsOnce (cut_in e0) last_tick e.fates) → AreKept holds was is → Ran (steps t) ticks done e0 e was is
  ran-from steps ticks done e0 e was is ready started planned allows same drives bad failed short once kept = record {
    ready = ready;
    started = started;
    planned = planned;
    allows = allows;
    same_run = same;
    drives =
        subst (λ (u : Topology). OnOk done (Drives tells holds count u custom cut (steps u) e0 e was is)) ready.seated.of_topology
        (subst (λ (k : Cut). OnOk done (Drives tells holds count (topology_in e0) custom k (steps (topology_in e0)) e0 e was is)) ready.seated.of_cut drives);
    bad = λ key met.
        subst (λ (u : Topology). Breaks tells holds count u custom cut (steps u) key e0 e was is) ready.seated.of_topology
        (subst (λ (k : Cut). Breaks tells holds count (topology_in e0) custom k (steps (topology_in e0)) key e0 e was is) ready.seated.of_cut (bad key met));
    failed = λ txid met.
        subst (λ (u : Topology). Unfollowed tells holds count u custom cut (steps u) txid e0 e was is) ready.seated.of_topology
        (subst (λ (k : Cut). Unfollowed tells holds count (topology_in e0) custom k (steps (topology_in e0)) txid e0 e was is) ready.seated.of_cut (failed txid met));
    short = λ met.
        subst (λ (u : Topology). WantsMemory tells holds count u custom cut e0 e.fates was is) ready.seated.of_topology
        (subst (λ (k : Cut). WantsMemory tells holds count (topology_in e0) custom k e0 e.fates was is) ready.seated.of_cut (short met));
    once = subst (λ (k : Cut). OnErr done (IsOnce k last_tick e.fates)) ready.seated.of_cut once;
    kept = kept;
  }

  -- it counted no more ticks than these steps have
  within : (whole : List Step) (ticks : ℕ) (done : Result (Unit {0}) RunFault) (e0 e : Engine I g) (was is : List (StatePart S)) → Ran whole ticks done e0 e was is → (done ≡ Err fault.Memory → ⊥) → (shape e).tick ≤ ticks_in whole
  within whole ticks (Ok ok) e0 e was is ran had = few_ticks whole e0 e ran.started ran.drives.goes
  within whole ticks (Err (fault.BadCell key)) e0 e was is ran had =
      let breaks = ran.bad key refl in
      let all : ticks_in whole ≡ ticks_in breaks.steps + ticks_in breaks.rest = ap ticks_in breaks.first ∙ ticks-of-rounds breaks.steps breaks.rest in
      let few = few_ticks breaks.steps e0 e ran.started breaks.drives.goes in omega arith
  within whole ticks (Err (fault.Follow txid)) e0 e was is ran had =
      let stops = ran.failed txid refl in
      let all : ticks_in whole ≡ ticks_in stops.steps + ticks_in stops.rest = ap ticks_in stops.first ∙ ticks-of-rounds stops.steps stops.rest in
      let few = few_ticks stops.steps e0 e ran.started stops.drives.goes in omega arith
  within whole ticks (Err fault.Memory) e0 e was is ran had = absurd (had refl)

  -- what was carried out, without its steps
  went_of : (whole : List Step) (ticks : ℕ) (done : Result (Unit {0}) RunFault) (e0 e : Engine I g) (was is : List (StatePart S)) → Ran whole ticks done e0 e was is → WentOn told tells holds count t custom cut ticks done e0 e was is
  went_of whole ticks done e0 e was is ran = record {
    ready = ran.ready;
    started = ran.started;
    planned = ran.planned;
    allows = λ had n low last. let all = within whole ticks done e0 e was is ran had in ran.allows n (omega arith) last;
    same_run = ran.same_run;
    leads = on_ok done (leads-drives tells holds count t custom cut laws.led whole e0 e was is) ran.drives;
    bad = λ key met.
        let breaks = ran.bad key met in
        record { between = breaks.between; leads = leads-drives tells holds count t custom cut laws.led breaks.steps e0 e was breaks.between breaks.drives; leaves = breaks.leaves; bad = breaks.bad };
    failed = λ txid met.
        let stops = ran.failed txid met in
        let less = stops.less in
        record {
          leads = leads-drives tells holds count t custom cut laws.led stops.steps e0 e was is stops.drives;
          ends = stops.ends;
          less = record { mid = less.mid; between = less.between; leads = leads-drives tells holds count t custom cut laws.led less.steps e0 less.mid was less.between less.drives; leaves = less.leaves };
        };
    short = λ met.
        let short = ran.short met in
        record { mid = short.mid; between = short.between; leads = leads-drives tells holds count t custom cut laws.led short.steps e0 short.mid was short.between short.drives; leaves = short.leaves };
    once = ran.once;
    kept = ran.kept;
  }

  -- the world that it is the run of
  world_by : (whole : List Step) (ticks : ℕ) (done : Result (Unit {0}) RunFault) (e0 e : Engine I g) (was is : List (StatePart S)) → Ran whole ticks done e0 e was is → (words : ℕ → ℕ → ℕ) → (OnOk done (shape e ≡ world_after t custom cut words (outcomes_of e.fates) whole))
      → IsAnswer (end_by done (answer_of (topology_in e) (cut_in e) (shape e))) → IsOfWorld t custom cut words whole (end_by done (answer_of (topology_in e) (cut_in e) (shape e))) e.fates
  world_by whole ticks (Ok ok) e0 e was is ran words shape_is answers = record {
    fates_are = ap (λ (w : World). w.fates) shape_is;
    answer_is = answer_then t cut e0 e ran.ready ran.same_run ∙ ap (answer_of t cut) shape_is;
  }
  world_by whole ticks (Err (fault.BadCell key)) e0 e was is ran words shape_is answers = absurd answers
  world_by whole ticks (Err (fault.Follow txid)) e0 e was is ran words shape_is answers = absurd answers
  world_by whole ticks (Err fault.Memory) e0 e was is ran words shape_is answers = absurd answers

  some_by : (whole : List Step) (ticks : ℕ) (done : Result (Unit {0}) RunFault) (e0 e : Engine I g) (was is : List (StatePart S)) → Ran whole ticks done e0 e was is → (words : ℕ → ℕ → ℕ) × OnOk done (shape e ≡ world_after t custom cut words (outcomes_of e.fates) whole)
  some_by whole ticks (Ok ok) e0 e was is ran = some_world whole e0 e ran.started ran.drives.goes
  some_by whole ticks (Err why) e0 e was is ran = (λ s k. 0, tt)

  told_by : (whole : List Step) (ticks : ℕ) (done : Result (Unit {0}) RunFault) (e0 e : Engine I g) (was is : List (StatePart S)) → Ran whole ticks done e0 e was is → (words : ℕ → ℕ → ℕ) → told words → OnOk done (shape e ≡ world_after t custom cut words (outcomes_of e.fates) whole)
  told_by whole ticks (Ok ok) e0 e was is ran words are =
      told_world told tells t custom cut whole e0 e ran.started ran.drives.goes words are (outcomes_of e.fates) (record { rest = []; first = sym (append-nil (outcomes_of e.fates)) })
  told_by whole ticks (Err why) e0 e was is ran words are = tt

  ends_by : (whole : List Step) (ticks : ℕ) (done : Result (Unit {0}) RunFault) (e0 e : Engine I g) (was is : List (StatePart S)) → Ran whole ticks done e0 e was is → Ends told holds count t custom cut whole ticks (end_by done (answer_of (topology_in e) (cut_in e) (shape e))) e.fates was is
  ends_by whole ticks done e0 e was is ran =
      let answer = end_by done (answer_of (topology_in e) (cut_in e) (shape e)) in
      let went = went_of whole ticks done e0 e was is ran in
      let tells_end = tells_at_end told tells holds count t custom cut laws input keeps ticks done e0 e was is answer e.fates went refl refl in
      let one = some_by whole ticks done e0 e was is ran in record {
        comes = record {
          tells = tells_end.tells_so;
          of_world = λ answers. (one.0, world_by whole ticks done e0 e was is ran one.0 one.1 answers);
        };
        told = λ words are answers. world_by whole ticks done e0 e was is ran words (told_by whole ticks done e0 e was is ran words are) answers;
        drawn = tells_end.drawn;
      }

  -- a run ends so
  pub ends : (whole : List Step) (ticks : ℕ) (done : Result (Unit {0}) RunFault) (e0 e : Engine I g) (was is : List (StatePart S)) (answer : Result Ended Stop) (fates : List Attempt) → Ran whole ticks done e0 e was is
      → answer ≡ end_by done (answer_of (topology_in e) (cut_in e) (shape e)) → fates ≡ e.fates → Ends told holds count t custom cut whole ticks answer fates was is
  ends whole ticks done e0 e was is answer fates ran answer_is fates_are =
      subst (λ (r : Result Ended Stop). Ends told holds count t custom cut whole ticks r fates was is) (sym answer_is)
      (subst (λ (fs : List Attempt). Ends told holds count t custom cut whole ticks (end_by done (answer_of (topology_in e) (cut_in e) (shape e))) fs was is) (sym fates_are) (ends_by whole ticks done e0 e was is ran))

  -- where a follower failed, parts stand at what was committed before the last commit too
  pub ends_less : (whole : List Step) (ticks txid : ℕ) (done : Result (Unit {0}) RunFault) (e0 e : Engine I g) (was is : List (StatePart S)) (answer : Result Ended Stop) (fates : List Attempt) → Ran whole ticks done e0 e was is
      → answer ≡ end_by done (answer_of (topology_in e) (cut_in e) (shape e)) → fates ≡ e.fates → answer ≡ Err (stop.Follow txid) → StandLess holds t custom cut fates was is
  ends_less whole ticks txid done e0 e was is answer fates ran answer_is fates_are failed =
      less_at_end told tells holds count t custom cut laws input keeps ticks txid done e0 e was is answer fates (went_of whole ticks done e0 e was is ran) answer_is fates_are failed

-- an engine that is ready is at rest where no commit is out
pub at_rest : {I : Type 0} {g : Ghosts I} (t : Topology) (cut : Cut) (e : Engine I g) → IsReady t cut e → IsIdle e → IsAtRest e
at_rest t cut e ready idle = record {
  ready =
      subst (λ (u : Topology). IsReady u (cut_in e) e) (sym ready.seated.of_topology)
      (subst (λ (k : Cut). IsReady t k e) (sym ready.seated.of_cut) ready);
  idle = idle;
}

pub fits_first : {I : Type 0} {g : Ghosts I} (t : Topology) (cut : Cut) (e : Engine I g) (events : List Event) → IsReady t cut e → AllByRecursion (FitsEvent t) events → AllByRecursion (FitsEvent (topology_in e)) events
fits_first t cut e events ready = subst (λ (u : Topology). AllByRecursion (FitsEvent u) events) (sym ready.seated.of_topology)
