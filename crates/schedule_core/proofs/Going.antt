-- An engine that goes on with its commits through parts, by steps or in any other way.
use Rattle.std.proofs.Common.{◌≡◌, ℕ, ◌+◌, List, [], ◌++◌, All, length, None, Some, refl, sym, ap, subst, ◌∙◌, append_assoc, append-nil, length-append, arith}
use Rattle.std.proofs.lemmas.List.Elements.{All-nil}
use Rattle.std.specs.Prelude.{slice_get}
use Rattle.event_worlds.specs.attempt_fates.declared.fates.Attempt.{Attempt}
use Rattle.event_worlds.specs.attempt_fates.Fates.{committed_batches}
use Rattle.batch_commits.specs.Standing.{FailuresAreCounted}
use Rattle.event_worlds.specs.bolt_ops.RowOp.{Custom, IsCustom}
use Rattle.event_worlds.specs.commit_turns.Outcomes.{IsOutcome}
use Rattle.event_engine.proofs.GoesLemmas.{draws-then, gives-parts, outcomes-append}
use Rattle.event_engine.proofs.WorldLemmas.{told_gives, words_begin}
use Rattle.event_engine.specs.declared.engine.Engine.{Engine}
use Rattle.event_engine.specs.Engines.{Gives, HasOutcomes, IsStill, shape, sources}
use Rattle.event_engine.specs.Starts.{IsStarted}
use Rattle.event_worlds.specs.Accounted.{Accounted, IsInput, LedAt, LedTo, station_of}
use Rattle.event_worlds.specs.Beside.{LedBeside, waits}
use Rattle.event_worlds.specs.Worlds.{Known, Step, World, first_counts, first_known, first_world, outcomes_of, run}
use Rattle.event_worlds.specs.output_collector.Draws.{Draws}
use Rattle.schedule_core.proofs.Drives.{drives-none, stands-same, stands-then, wants-still}
use Rattle.schedule_core.specs.Driving.{Breaks, BreaksOff, Drives, HasCome, LeadsOn, RunsOut, StandOn, WantsMemory}
use Rattle.schedule_core.specs.Laws.{Laws, WorldLaws}
use Rattle.event_worlds.specs.state_parts.declared.answer.CommitOutcome.{CommitOutcome}
use Rattle.event_worlds.specs.state_parts.declared.parts.StatePart.{StatePart}
use Rattle.event_worlds.specs.state_parts.PartPlans.{AreParts}
use Rattle.event_worlds.specs.storm_ids.declared.ids.Ids.{Ghosts}
use Rattle.storm_stores.specs.CellMaps.{CellMap}
use Rattle.event_worlds.specs.topology_plan.Topology.{Topology}
use Rattle.event_worlds.specs.taken_records.Cuts.{Cut}
use Rattle.event_worlds.specs.tuple_account.Histories.{History, Packet}
use Rattle.event_worlds.specs.tuple_account.Moves.{Station, beside}

-- ---- a world with nothing beside it

add_none : (a b : ℕ) → a ≡ 0 → a + b ≡ b
add_none a b none = omega arith

none_beside : (weight : (Packet → ℕ) → ℕ) → ((f : Packet → ℕ) → weight f ≡ 0) → (k : Known) → beside (waits weight) (station_of k) ≡ station_of k
none_beside weight none k = λ i. record {
  waiting = λ f. add_none (weight f) ((station_of k).waiting f) (none f) i;
  kept = λ e. add_none 0 ((station_of k).kept e) refl i;
  given = λ s j. add_none 0 ((station_of k).given s j) refl i;
}

module _ (t : Topology) (custom : Custom) (cut : Cut) (words : ℕ → ℕ → ℕ) (weight : (Packet → ℕ) → ℕ) (none : (f : Packet → ℕ) → weight f ≡ 0) (h : History) (k : Known) where
  -- where nothing waits beside a world, what led to both led to the world
  pub led-alone : LedBeside t custom cut words weight h k → LedTo t custom cut words h k
  led-alone = subst (λ (all : Station). LedAt t custom cut words all h k) (none_beside weight none k)

  -- and the other way round
  pub led-beside : LedTo t custom cut words h k → LedBeside t custom cut words weight h k
  led-beside = subst (λ (all : Station). LedAt t custom cut words all h k) (sym (none_beside weight none k))

-- ---- going on

-- outcomes that begin with those of more fates begin with those of the first
has_first : (outcomes : List CommitOutcome) (fates more all : List Attempt) → all ≡ fates ++ more → HasOutcomes outcomes all → HasOutcomes outcomes fates
has_first outcomes fates more all is has = record {
  rest = outcomes_of more ++ has.rest;
  first = has.first ∙ ap (λ xs. xs ++ has.rest) (ap outcomes_of is ∙ outcomes-append fates more) ∙ append_assoc (outcomes_of fates) (outcomes_of more) has.rest;
}

-- steps lead from a world to a world
abbrev pub StepsLead : Topology → Custom → Cut → Type 0
StepsLead t custom cut =
    (words : ℕ → ℕ → ℕ) (outcomes : List CommitOutcome) (steps : List Step) (k : Known) → IsInput t cut → IsCustom custom → All (IsOutcome t) outcomes
    → Accounted t custom cut words k → Accounted t custom cut words (run t custom cut words outcomes steps k)

module _ {I S : Type 0} {g : Ghosts I} (tells : I → (ℕ → ℕ) → ℕ → Type 0) (holds : S → CellMap → Type 0) (count : S → ℕ) (t : Topology) (custom : Custom) (cut : Cut) where
  -- it went through steps
  pub leads-drives : StepsLead t custom cut → (steps : List Step) (old new : Engine I g) (was is : List (StatePart S)) → Drives tells holds count t custom cut steps old new was is → LeadsOn tells holds count t custom cut old new was is
  leads-drives lead steps old new was is drives = record {
    given = drives.goes.given;
    draws = drives.goes.draws;
    none = drives.goes.none;
    more = drives.goes.more;
    added = drives.goes.added;
    led = λ words counts outcomes gives has input keeps good accounted.
        let start : Known = record { world = shape old; counts = counts } in
        let same = drives.goes.runs words counts outcomes gives has in
        subst (λ (k : Known). Accounted t custom cut words k) (λ i. record { world = same.0 i; counts = λ s. same.1 s i })
        (lead words outcomes steps start input keeps good accounted);
    plans = drives.plans;
    outcomes = drives.outcomes;
    stands = drives.stands;
    bad = drives.bad;
    strange = drives.strange;
    counted = drives.counted;
  }

  module _ (laws : Laws count t custom cut) where
    pub leads-none : (e : Engine I g) (parts : List (StatePart S)) → LeadsOn tells holds count t custom cut e e parts parts
    leads-none e parts = leads-drives laws.accounted [] e e parts parts (drives-none tells holds count t custom cut laws e parts)

    -- the coordinator and the fates were left alone, and so were the parts
    pub leads-still : (old new : Engine I g) (parts : List (StatePart S)) (given : ℕ → List ℕ) → IsStill old new
        → ((s : ℕ) (before : I) → slice_get (sources old) s ≡ Some before → (after : I) × (slice_get (sources new) s ≡ Some after) × Draws tells before (given s) after)
        → ((s : ℕ) → slice_get (sources old) s ≡ None → (given s ≡ []) × (slice_get (sources new) s ≡ None))
        → ((words : ℕ → ℕ → ℕ) (counts : ℕ → ℕ) (outcomes : List CommitOutcome) → Gives words counts given → HasOutcomes outcomes new.fates → IsInput t cut → IsCustom custom → All (IsOutcome t) outcomes
        → Accounted t custom cut words (record { world = shape old; counts = counts }) → Accounted t custom cut words (record { world = shape new; counts = λ s. counts s + length (given s) }))
        → LeadsOn tells holds count t custom cut old new parts parts
    leads-still old new parts given still draws none led = record {
      given = given;
      draws = draws;
      none = none;
      more = [];
      added = still.fates ∙ sym (append-nil old.fates);
      led = led;
      plans = refl;
      outcomes = λ are good. subst (λ (fs : List Attempt). All (IsOutcome t) (outcomes_of fs)) (sym still.fates) good;
      stands = λ words counts outcomes gives has input keeps good accounted planned. stands-same holds t custom cut old.fates new.fates parts (ap committed_batches still.fates);
      bad = λ key found. found;
      strange = λ key found. found;
      counted = laws.counts_none parts;
    }

    pub leads-then : (a b c : Engine I g) (p q r : List (StatePart S)) → LeadsOn tells holds count t custom cut a b p q → LeadsOn tells holds count t custom cut b c q r → LeadsOn tells holds count t custom cut a c p r
    leads-then a b c p q r first second = record {
      given = λ s. first.given s ++ second.given s;
      draws = λ s before at.
          let d = first.draws s before at in
          let e = second.draws s d.0 d.1 in (e.0, e.1, draws-then tells before d.0 e.0 (first.given s) (second.given s) d.2 e.2);
      none = λ s off.
          let one = first.none s off in
          let two = second.none s one.1 in ((λ i. one.0 i ++ two.0 i), two.1);
      more = first.more ++ second.more;
      added = second.added ∙ ap (λ (fs : List Attempt). fs ++ second.more) first.added ∙ append_assoc a.fates first.more second.more;
      led = λ words counts outcomes gives has input keeps good accounted.
          let parts = gives-parts words counts first.given second.given gives in
          let has_one = has_first outcomes b.fates second.more c.fates second.added has in
          let mid = first.led words counts outcomes parts.0 has_one input keeps good accounted in
          let end = second.led words (λ s. counts s + length (first.given s)) outcomes parts.1 has input keeps good mid in
          let sum : (s : ℕ) → counts s + length (first.given s) + length (second.given s) ≡ counts s + length (first.given s ++ second.given s) =
          λ s. let len = length-append (first.given s) (second.given s) in omega arith in
          subst (λ (counted : ℕ → ℕ). Accounted t custom cut words (record { world = shape c; counts = counted })) (λ i s. sum s i) end;
      plans = second.plans ∙ first.plans;
      outcomes = λ are good. second.outcomes (first.plans ∙ are) (first.outcomes are good);
      stands = λ words counts outcomes gives has input keeps good accounted planned.
          let parts = gives-parts words counts first.given second.given gives in
          let has_one = has_first outcomes b.fates second.more c.fates second.added has in
          stands-then holds t custom cut a.fates b.fates c.fates p q r (first.stands words counts outcomes parts.0 has_one input keeps good accounted planned)
          (second.stands words (λ s. counts s + length (first.given s)) outcomes parts.1 has input keeps good (first.led words counts outcomes parts.0 has_one input keeps good accounted) (first.plans ∙ planned));
      bad = λ key found. first.bad key (second.bad key found);
      strange = λ key found. first.strange key (second.strange key found);
      counted = laws.counts_then first.more second.more p q r first.plans first.counted second.counted;
    }

    -- steps followed, up to a bad cell
    pub leads-breaks : (whole : List Step) (key : List ℕ) (a b c : Engine I g) (p q r : List (StatePart S)) → LeadsOn tells holds count t custom cut a b p q → Breaks tells holds count t custom cut whole key b c q r → BreaksOff tells holds count t custom cut key a c p r
    leads-breaks whole key a b c p q r first second = record {
      between = second.between;
      leads = leads-then a b c p q second.between first (leads-drives laws.accounted second.steps b c q second.between second.drives);
      leaves = second.leaves;
      bad = first.bad key second.bad;
    }

    -- or up to where memory was wanted
    pub leads-wants : (a b : Engine I g) (fates : List Attempt) (p q r : List (StatePart S)) → LeadsOn tells holds count t custom cut a b p q → WantsMemory tells holds count t custom cut b fates q r → RunsOut tells holds count t custom cut a fates p r
    leads-wants a b fates p q r first second = record {
      mid = second.mid;
      between = second.between;
      leads = leads-then a b second.mid p q second.between first (leads-drives laws.accounted second.steps b second.mid q second.between second.drives);
      leaves = second.leaves;
    }

    -- or nothing followed but want of memory
    pub leads-short : (a b : Engine I g) (fates : List Attempt) (p q : List (StatePart S)) → LeadsOn tells holds count t custom cut a b p q → fates ≡ b.fates → RunsOut tells holds count t custom cut a fates p q
    leads-short a b fates p q first same = leads-wants a b fates p q q first (wants-still tells holds count t custom cut laws b fates q same)

  -- ---- from the start

  module _ (laws : WorldLaws holds count t custom cut) (input : IsInput t cut) (keeps : IsCustom custom) (told : (ℕ → ℕ → ℕ) → Type 0) (e0 e : Engine I g) (was is : List (StatePart S)) (started : IsStarted told tells t cut e0) (planned : AreParts t was)
      (on : LeadsOn tells holds count t custom cut e0 e was is) where
    -- by words that begin with what was given
    come : (words : ℕ → ℕ → ℕ) → Gives words (λ s. 0) started.given → Gives words (first_counts t words) on.given → HasCome holds count t custom cut words e was is
    come words begins gives =
        let outcomes = outcomes_of e.fates in
        let has : HasOutcomes outcomes e.fates = record { rest = []; first = sym (append-nil outcomes) } in
        let start_is : shape e0 ≡ first_world t cut words = started.first words begins in
        let none : e0.fates ≡ [] = ap (λ (w : World). w.fates) start_is in
        let good : All (IsOutcome t) outcomes = on.outcomes planned (subst (λ (fs : List Attempt). All (IsOutcome t) (outcomes_of fs)) (sym none) (All-nil (IsOutcome t))) in
        let first : Accounted t custom cut words (first_known t cut words) = laws.first words input in
        let led : Accounted t custom cut words (record { world = shape e0; counts = first_counts t words }) = subst (λ (w : World). Accounted t custom cut words (record { world = w; counts = first_counts t words })) (sym start_is) first in
        record {
          counts = λ s. first_counts t words s + length (on.given s);
          led = on.led words (first_counts t words) outcomes gives has input keeps good led;
          planned = planned;
          plans = on.plans;
          stands = subst (λ (fs : List Attempt). StandOn holds t custom cut fs e.fates was is) none (on.stands words (first_counts t words) outcomes gives has input keeps good led planned);
          strange = on.strange;
          counted = subst (λ (xs : List Attempt). FailuresAreCounted count xs was is) (sym (on.added ∙ ap (λ (fs : List Attempt). fs ++ on.more) none)) on.counted;
        }

    -- by some words
    pub some_come : (words : ℕ → ℕ → ℕ) × HasCome holds count t custom cut words e was is
    some_come = let all = words_begin told tells t cut e0 started on.given in (all.0, come all.0 all.1 all.2)

    -- and by those that are told
    pub told_come : (words : ℕ → ℕ → ℕ) → told words → HasCome holds count t custom cut words e was is
    told_come words are = come words (started.gives words are) (told_gives told tells t cut e0 started on.given e on.draws on.none words are)
