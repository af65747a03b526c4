-- What a run tells of its answer, its fates and its parts, from what it has come to. It names no
-- step.
use Rattle.std.proofs.Common.{◌≡◌, ◌≤◌, ℕ, Bool, true, false, List, [], ◌∷◌, ◌++◌, All, length, Option, None, Some, Result, Ok, Err, refl, sym, ap, subst, ◌∙◌, append-nil, arith}
use Rattle.std.specs.Prelude.{OnErr, OnOk}
use Rattle.event_worlds.specs.attempt_fates.Fates.{DropsFollow, IsOnce, committed, committed_batches}
use Rattle.event_worlds.specs.attempt_fates.declared.fates.Attempt.{Attempt}
use Rattle.batch_commits.specs.Standing.{AllButLastAreCounted, HasStrangeAt, PartsStand}
use Rattle.event_worlds.specs.bolt_ops.RowOp.{Custom, IsCustom}
use Rattle.event_worlds.specs.commit_order.declared.stop.Stop.{Stop}
use Rattle.event_worlds.specs.commit_order.declared.stop.Stop.TheVariants as stop
use Rattle.event_worlds.specs.commit_turns.Desks.{Desk}
use Rattle.event_worlds.specs.commit_turns.Kept.{FailsInTurn, IsKept}
use Rattle.event_worlds.specs.commit_turns.Turns.{is_finished, last_tick}
use Rattle.event_engine.specs.declared.engine.Engine.{Engine}
use Rattle.event_engine.specs.Engines.{IsReady, cut_in, shape, topology_in}
use Rattle.event_engine.specs.Starts.{IsStarted}
use Rattle.event_worlds.specs.Accounted.{AreCaused, IsInput, station_of}
use Rattle.event_worlds.specs.record_spans.declared.span.Span.{Span}
use Rattle.event_worlds.specs.taken_records.Taken.{one_if}
use Rattle.event_worlds.specs.Worlds.{Known}
use Rattle.schedule_core.proofs.FatesOfRuns.{AnswersFor, answers-from, once-later}
use Rattle.schedule_core.proofs.Drives.{stands-same, stands-then}
use Rattle.schedule_core.proofs.Going.{some_come, told_come}
use Rattle.schedule_core.proofs.Keeping.{kept-none}
use Rattle.schedule_core.proofs.TicksOfRuns.{caused-later}
use Rattle.schedule_core.specs.declared.ended.Ended.{Ended}
use Rattle.schedule_core.specs.Driving.{AreBefore, AreKept, BreaksOff, HasCome, IsOfSameRun, LeadsOn, Leaves, RunsOut, StandOn}
use Rattle.schedule_core.specs.Following.{EndsByCommit, LedUnfollowed, StandLess}
use Rattle.schedule_core.specs.Laws.{WorldLaws}
use Rattle.schedule_core.specs.Rounding.{end_by}
use Rattle.schedule_core.specs.Runs.{Answers, IsFirst, RunTells}
use Rattle.schedule_core.specs.Schedules.{HadMemory, answer_by, answer_of}
use Rattle.schedule_core.specs.declared.fault.RunFault.{RunFault}
use Rattle.schedule_core.specs.declared.fault.RunFault.TheVariants as fault
use Rattle.event_worlds.specs.state_parts.declared.parts.StatePart.{StatePart}
use Rattle.event_worlds.specs.state_parts.Commits.{IsBadAt}
use Rattle.event_worlds.specs.state_parts.PartPlans.{AreParts}
use Rattle.event_worlds.specs.state_parts.Standing.{IsEmpty}
use Rattle.event_worlds.specs.storm_ids.declared.ids.Ids.{Ghosts}
use Rattle.storm_stores.specs.CellMaps.{CellMap}
use Rattle.event_worlds.specs.topology_plan.Topology.{Topology}
use Rattle.event_worlds.specs.taken_records.Cuts.{Cut}

-- what is answered of what the coordinator knows
answers_by : (t : Topology) (cut : Cut) (d : Desk) (ticks : ℕ) (fates : List Attempt) → AnswersFor t cut d ticks fates → (o : Option ℕ) (b : Bool) → d.exhausted ≡ o → is_finished t cut d ≡ b → Answers t cut ticks fates (answer_by o b (length (committed fates)))
answers_by t cut d ticks fates from (Some txid) b out is = let r = from.ran_out txid out in record { all_aborted = r.0; none_committed = r.1 }
answers_by t cut d ticks fates from None true out is = from.whole is
answers_by t cut d ticks fates from None false out is = from.unfinished is

-- no world answers a bad cell
no_bad_cell : (o : Option ℕ) (b : Bool) (n : ℕ) (key : List ℕ) → answer_by o b n ≡ Err (stop.BadCell key) → ⊥
no_bad_cell (Some txid) b n key is = cc
no_bad_cell None true n key is = cc
no_bad_cell None false n key is = cc

no_follower : (o : Option ℕ) (b : Bool) (n txid : ℕ) → answer_by o b n ≡ Err (stop.Follow txid) → ⊥
no_follower (Some k) b n txid is = cc
no_follower None true n txid is = cc
no_follower None false n txid is = cc

follow_no_cell : (answer : Result Ended Stop) (txid : ℕ) (key : List ℕ) → answer ≡ Err (stop.Follow txid) → answer ≡ Err (stop.BadCell key) → ⊥
follow_no_cell answer txid key one two = cc

-- the earlier fates are those before the last one
same_earlier : (xs ys : List Attempt) (a b : Attempt) → xs ++ a ∷ [] ≡ ys ++ b ∷ [] → xs ≡ ys
same_earlier [] [] a b is = refl
same_earlier [] (y ∷ ys) a b is = absurd (no_more ys b (let e : a ∷ [] ≡ y ∷ (ys ++ b ∷ []) = is in cc))
  where
    no_more : (zs : List Attempt) (c : Attempt) → [] ≡ zs ++ c ∷ [] → ⊥
    no_more [] c e = cc
    no_more (z ∷ zs) c e = cc
same_earlier (x ∷ xs) [] a b is = absurd (no_more xs a (let e : x ∷ (xs ++ a ∷ []) ≡ b ∷ [] = is in cc))
  where
    no_more : (zs : List Attempt) (c : Attempt) → zs ++ c ∷ [] ≡ [] → ⊥
    no_more [] c e = cc
    no_more (z ∷ zs) c e = cc
same_earlier (x ∷ xs) (y ∷ ys) a b is =
    let first : x ≡ y = (let e : x ∷ (xs ++ a ∷ []) ≡ y ∷ (ys ++ b ∷ []) = is in cc) in
    let rest : xs ++ a ∷ [] ≡ ys ++ b ∷ [] = (let e : x ∷ (xs ++ a ∷ []) ≡ y ∷ (ys ++ b ∷ []) = is in cc) in
    λ i. first i ∷ same_earlier xs ys a b rest i

is_no_cell : (answer : Result Ended Stop) (key : List ℕ) → answer ≡ Err stop.Memory → answer ≡ Err (stop.BadCell key) → ⊥
is_no_cell answer key short bad = cc

same_cell : (answer : Result Ended Stop) (key k : List ℕ) → answer ≡ Err (stop.BadCell key) → answer ≡ Err (stop.BadCell k) → key ≡ k
same_cell answer key k one two = cc

-- ---- where parts stand

module _ {S : Type 0} (holds : S → CellMap → Type 0) (count : S → ℕ) (t : Topology) (custom : Custom) (cut : Cut) (laws : WorldLaws holds count t custom cut) (fates : List Attempt) (was is : List (StatePart S)) where
  -- parts that stood at the batches before the start stand at them and then those that were committed
  abbrev pub StandBehind : Type 0
  StandBehind = (before : List (List Span)) → AreBefore cut before → PartsStand holds t custom cut before was → PartsStand holds t custom cut (before ++ committed_batches fates) is

  stands_behind : StandOn holds t custom cut [] fates was is → StandBehind
  stands_behind on = λ before are stand. on before are (subst (λ (bs : List (List Span)). PartsStand holds t custom cut bs was) (sym (append-nil before)) stand)

  -- and where the start is at the first transaction no batch is before it
  stands_first : StandBehind → IsFirst cut → All (IsEmpty holds) was → PartsStand holds t custom cut (committed_batches fates) is
  stands_first behind first empty = behind [] (record { many = sym first.start; gone = λ n least most. ap one_if (sym (first.none_gone n least most)) }) (laws.begin was empty)

-- ---- want of memory

-- memory was wanted
short_tells : {S : Type 0} (holds : S → CellMap → Type 0) (count : S → ℕ) (t : Topology) (custom : Custom) (cut : Cut) (laws : WorldLaws holds count t custom cut) (ticks : ℕ) (fates : List Attempt) (was is : List (StatePart S))
    → IsOnce cut last_tick fates → AreKept holds was is → ((key : List ℕ) → HasStrangeAt holds is key → HasStrangeAt holds was key)
    → StandOn holds t custom cut [] fates was is → AllButLastAreCounted count fates was is → RunTells holds count t custom cut ticks (Err stop.Memory) fates was is
short_tells holds count t custom cut laws ticks fates was is once kept strange stands counted = record {
  once = once;
  in_time = λ ok. absurd ok;
  answers = tt;
  caused = λ ok. absurd ok;
  failed_in_turn = λ ok. absurd ok;
  drops = λ ok. absurd ok;
  strange = strange;
  bad_cell = λ key is_bad. absurd (is_no_cell (Err stop.Memory) key refl is_bad);
  stands = stands_behind holds count t custom cut laws fates was is stands;
  stands_first = stands_first holds count t custom cut laws fates was is (stands_behind holds count t custom cut laws fates was is stands);
  counted = λ ok. absurd ok;
  but_last = counted;
  kept = kept;
}

-- it was wanted before anything was done
pub tells_not_begun : {S : Type 0} (holds : S → CellMap → Type 0) (count : S → ℕ) (t : Topology) (custom : Custom) (cut : Cut) (laws : WorldLaws holds count t custom cut) (ticks : ℕ) (fates : List Attempt) (parts : List (StatePart S))
    → IsInput t cut → fates ≡ [] → RunTells holds count t custom cut ticks (Err stop.Memory) fates parts parts
tells_not_begun holds count t custom cut laws ticks fates parts input none =
    let first = laws.first (λ s j. 0) input in
    short_tells holds count t custom cut laws ticks fates parts parts (subst (λ (fs : List Attempt). IsOnce cut last_tick fs) (sym none) (once-later cut 0 last_tick [] first.1.kept.once (omega arith))) (kept-none holds parts)
    (λ key found. found)
    (stands-same holds t custom cut [] fates parts (ap committed_batches none))
    (subst (λ (fs : List Attempt). AllButLastAreCounted count fs parts parts) (sym none) (laws.none_but_last parts))

module _ {I S : Type 0} {g : Ghosts I} (holds : S → CellMap → Type 0) (count : S → ℕ) (t : Topology) (custom : Custom) (cut : Cut) (laws : WorldLaws holds count t custom cut) (input : IsInput t cut) where
  -- ---- an engine that a run has come to, by words

  module _ (words : ℕ → ℕ → ℕ) (e : Engine I g) (was is : List (StatePart S)) (come : HasCome holds count t custom cut words e was is) where
    come_kept : IsKept t cut (shape e).desk e.fates
    come_kept = come.led.1.kept

    -- the coordinator counts no tick past the last
    come_last : (shape e).desk.tick ≤ last_tick
    come_last = let a = come.led.1.ticks in let b = come.led.1.last in omega arith

    -- it counted no ticks but those that the engine did
    pub come_ticks : (shape e).desk.tick ≤ (shape e).tick
    come_ticks = come.led.1.ticks

    -- each end has its cause, by these words
    pub come_caused : (ticks : ℕ) → (shape e).desk.tick ≤ ticks → AreCaused t custom cut ticks words e.fates
    come_caused ticks low = caused-later t custom cut (shape e).desk.tick ticks words e.fates (laws.causes words (record { world = shape e; counts = come.counts }) input come.led) low

    -- no tick was counted that these do not allow
    pub come_low : (ticks : ℕ) → ((n : ℕ) → n ≤ (shape e).tick → n ≤ last_tick → n ≤ ticks) → (shape e).desk.tick ≤ ticks
    come_low ticks allows = allows (shape e).desk.tick come_ticks come_last

    -- nothing stopped it
    pub come_tells : (ticks : ℕ) → (shape e).desk.tick ≤ ticks → AreKept holds was is → RunTells holds count t custom cut ticks (answer_of t cut (shape e)) e.fates was is
    come_tells ticks low kept = record {
      once = once-later cut (shape e).desk.tick last_tick e.fates come_kept.once come_last;
      in_time = λ ok. once-later cut (shape e).desk.tick ticks e.fates come_kept.once low;
      answers = answers_by t cut (shape e).desk ticks e.fates (answers-from holds count t custom cut laws input.start (shape e).desk ticks e.fates come_kept low) (shape e).desk.exhausted (is_finished t cut (shape e).desk) refl refl;
      caused = λ ok. (words, come_caused ticks low);
      failed_in_turn = λ ok. come_kept.fails_in_turn;
      drops = λ ok. come_kept.drops;
      strange = come.strange;
      bad_cell = λ key is_bad. absurd (no_bad_cell (shape e).desk.exhausted (is_finished t cut (shape e).desk) (length (committed e.fates)) key is_bad);
      stands = stands_behind holds count t custom cut laws e.fates was is come.stands;
      stands_first = stands_first holds count t custom cut laws e.fates was is (stands_behind holds count t custom cut laws e.fates was is come.stands);
      counted = λ ok. come.counted;
      but_last = laws.all_told e.fates was is come.counted;
      kept = kept;
    }

    -- a follower failed at the last commit
    pub unfollowed_come : (ticks txid : ℕ) → (shape e).desk.tick ≤ ticks → AreKept holds was is → EndsByCommit txid e.fates → RunTells holds count t custom cut ticks (Err (stop.Follow txid)) e.fates was is
    unfollowed_come ticks txid low kept ends = record {
      once = once-later cut (shape e).desk.tick last_tick e.fates come_kept.once come_last;
      in_time = λ ok. once-later cut (shape e).desk.tick ticks e.fates come_kept.once low;
      answers = ends;
      caused = λ ok. (words, come_caused ticks low);
      failed_in_turn = λ ok. come_kept.fails_in_turn;
      drops = λ ok. come_kept.drops;
      strange = come.strange;
      bad_cell = λ key is_bad. absurd (follow_no_cell (Err (stop.Follow txid)) txid key refl is_bad);
      stands = stands_behind holds count t custom cut laws e.fates was is come.stands;
      stands_first = stands_first holds count t custom cut laws e.fates was is (stands_behind holds count t custom cut laws e.fates was is come.stands);
      counted = λ ok. come.counted;
      but_last = laws.all_told e.fates was is come.counted;
      kept = kept;
    }

  -- ---- one that a fault stopped

  module _ (words : ℕ → ℕ → ℕ) (e : Engine I g) (fates : List Attempt) (was between is : List (StatePart S)) (come : HasCome holds count t custom cut words e was between) (leaves : Leaves holds count t custom cut e fates between is) where
    pub left_stands : StandOn holds t custom cut [] fates was is
    left_stands =
        let k : Known = record { world = shape e; counts = come.counts } in
        stands-then holds t custom cut [] e.fates fates was between is come.stands
        (leaves.stands words (station_of k) come.led.0 k (record { desk = refl; fates = refl }) input come.led.1 (come.plans ∙ come.planned))

    left_counted : AllButLastAreCounted count fates was is
    left_counted = subst (λ (fs : List Attempt). AllButLastAreCounted count fs was is) (sym leaves.added) (laws.counts_last e.fates leaves.more was between is come.plans come.counted leaves.counted)

    -- memory was wanted
    pub short_come : (ticks : ℕ) → IsOnce cut last_tick fates → AreKept holds was is → RunTells holds count t custom cut ticks (Err stop.Memory) fates was is
    short_come ticks once kept = short_tells holds count t custom cut laws ticks fates was is once kept (λ key found. come.strange key (leaves.strange key found)) left_stands left_counted

    -- a bad cell was met
    pub broken_come : fates ≡ e.fates → (ticks : ℕ) (key : List ℕ) → (shape e).desk.tick ≤ ticks → AreKept holds was is → IsBadAt holds was key → RunTells holds count t custom cut ticks (Err (stop.BadCell key)) fates was is
    broken_come same ticks key low kept bad =
        let once = (come_kept words e was between come).once in record {
          once = subst (IsOnce cut last_tick) (sym same) (once-later cut (shape e).desk.tick last_tick e.fates once (come_last words e was between come));
          in_time = λ ok. subst (IsOnce cut ticks) (sym same) (once-later cut (shape e).desk.tick ticks e.fates once low);
          answers = tt;
          caused = λ ok. (words, subst (AreCaused t custom cut ticks words) (sym same) (come_caused words e was between come ticks low));
          failed_in_turn = λ ok. subst (FailsInTurn cut) (sym same) (come_kept words e was between come).fails_in_turn;
          drops = λ ok. subst (DropsFollow cut) (sym same) (come_kept words e was between come).drops;
          strange = λ k found. come.strange k (leaves.strange k found);
          bad_cell = λ k is_bad. subst (IsBadAt holds was) (same_cell (Err (stop.BadCell key)) key k refl is_bad) bad;
          stands = stands_behind holds count t custom cut laws fates was is left_stands;
          stands_first = stands_first holds count t custom cut laws fates was is (stands_behind holds count t custom cut laws fates was is left_stands);
          counted = λ ok. absurd ok;
          but_last = left_counted;
          kept = kept;
        }

-- ---- a whole run

-- an answer is that of the plan and the input that an engine was started with
pub answer_then : {I : Type 0} {g : Ghosts I} (t : Topology) (cut : Cut) (e0 e : Engine I g) → IsReady t cut e0 → IsOfSameRun e0 e → answer_of (topology_in e) (cut_in e) (shape e) ≡ answer_of t cut (shape e)
answer_then t cut e0 e ready same =
    ap (λ (u : Topology). answer_of u (cut_in e) (shape e)) (same.topology ∙ ready.seated.of_topology)
    ∙ ap (λ (k : Cut). answer_of t k (shape e)) (same.cut ∙ ready.seated.of_cut)

-- what the answer and the fates of a run tell, also by words that sources told
pub record Tells {S : Type 0} (told : (ℕ → ℕ → ℕ) → Type 0) (holds : S → CellMap → Type 0) (count : S → ℕ) (t : Topology) (custom : Custom) (cut : Cut) (ticks : ℕ) (answer : Result Ended Stop) (fates : List Attempt) (was is : List (StatePart S)) : Type 0 where
  pub tells_so : RunTells holds count t custom cut ticks answer fates was is
  pub drawn : (words : ℕ → ℕ → ℕ) → told words → HadMemory answer → AreCaused t custom cut ticks words fates

module _ {I S : Type 0} {g : Ghosts I} (told : (ℕ → ℕ → ℕ) → Type 0) (tells : I → (ℕ → ℕ) → ℕ → Type 0) (holds : S → CellMap → Type 0) (count : S → ℕ) (t : Topology) (custom : Custom) (cut : Cut) where
  -- An engine was started and went on, and what was carried out came to this.
  pub record WentOn (ticks : ℕ) (done : Result (Unit {0}) RunFault) (e0 e : Engine I g) (was is : List (StatePart S)) : Type 0 where
    pub ready : IsReady t cut e0
    pub started : IsStarted told tells t cut e0
    pub planned : AreParts t was
    -- the engine counted no more ticks than these
    pub allows : (done ≡ Err fault.Memory → ⊥) → (n : ℕ) → n ≤ (shape e).tick → n ≤ last_tick → n ≤ ticks
    pub same_run : OnOk done (IsOfSameRun e0 e)
    pub leads : OnOk done (LeadsOn tells holds count t custom cut e0 e was is)
    pub bad : (key : List ℕ) → done ≡ Err (fault.BadCell key) → BreaksOff tells holds count t custom cut key e0 e was is
    pub failed : (txid : ℕ) → done ≡ Err (fault.Follow txid) → LedUnfollowed tells holds count t custom cut txid e0 e was is
    pub short : done ≡ Err fault.Memory → RunsOut tells holds count t custom cut e0 e.fates was is
    pub once : OnErr done (IsOnce cut last_tick e.fates)
    pub kept : AreKept holds was is

  module _ (laws : WorldLaws holds count t custom cut) (input : IsInput t cut) (keeps : IsCustom custom) where
    tells_by : (ticks : ℕ) (done : Result (Unit {0}) RunFault) (e0 e : Engine I g) (was is : List (StatePart S)) → WentOn ticks done e0 e was is → Tells told holds count t custom cut ticks (end_by done (answer_of (topology_in e) (cut_in e) (shape e))) e.fates was is
    tells_by ticks (Ok ok) e0 e was is went =
        let one = some_come tells holds count t custom cut laws input keeps told e0 e was is went.started went.planned went.leads in
        let low = come_low holds count t custom cut laws input one.0 e was is one.1 ticks (went.allows (λ no. cc)) in record {
          tells_so =
              subst (λ (r : Result Ended Stop). RunTells holds count t custom cut ticks r e.fates was is) (sym (answer_then t cut e0 e went.ready went.same_run))
              (come_tells holds count t custom cut laws input one.0 e was is one.1 ticks low went.kept);
          drawn = λ words are had.
              come_caused holds count t custom cut laws input words e was is (told_come tells holds count t custom cut laws input keeps told e0 e was is went.started went.planned went.leads words are) ticks low;
        }
    tells_by ticks (Err (fault.BadCell key)) e0 e was is went =
        let breaks = went.bad key refl in
        let one = some_come tells holds count t custom cut laws input keeps told e0 e was breaks.between went.started went.planned breaks.leads in
        let low = come_low holds count t custom cut laws input one.0 e was breaks.between one.1 ticks (went.allows (λ no. cc)) in record {
          tells_so = broken_come holds count t custom cut laws input one.0 e e.fates was breaks.between is one.1 breaks.leaves refl ticks key low went.kept breaks.bad;
          drawn = λ words are had.
              come_caused holds count t custom cut laws input words e was breaks.between (told_come tells holds count t custom cut laws input keeps told e0 e was breaks.between went.started went.planned breaks.leads words are) ticks low;
        }
    tells_by ticks (Err (fault.Follow txid)) e0 e was is went =
        let failed = went.failed txid refl in
        let one = some_come tells holds count t custom cut laws input keeps told e0 e was is went.started went.planned failed.leads in
        let low = come_low holds count t custom cut laws input one.0 e was is one.1 ticks (went.allows (λ no. cc)) in record {
          tells_so = unfollowed_come holds count t custom cut laws input one.0 e was is one.1 ticks txid low went.kept failed.ends;
          drawn = λ words are had.
              come_caused holds count t custom cut laws input words e was is (told_come tells holds count t custom cut laws input keeps told e0 e was is went.started went.planned failed.leads words are) ticks low;
        }
    tells_by ticks (Err fault.Memory) e0 e was is went =
        let short = went.short refl in
        let one = some_come tells holds count t custom cut laws input keeps told e0 short.mid was short.between went.started went.planned short.leads in record {
          tells_so = short_come holds count t custom cut laws input one.0 short.mid e.fates was short.between is one.1 short.leaves ticks went.once went.kept;
          drawn = λ words are had. absurd had;
        }

    -- so it is with the answer and the fates of a run
    pub tells_at_end : (ticks : ℕ) (done : Result (Unit {0}) RunFault) (e0 e : Engine I g) (was is : List (StatePart S)) (answer : Result Ended Stop) (fates : List Attempt) → WentOn ticks done e0 e was is
        → answer ≡ end_by done (answer_of (topology_in e) (cut_in e) (shape e)) → fates ≡ e.fates → Tells told holds count t custom cut ticks answer fates was is
    tells_at_end ticks done e0 e was is answer fates went answer_is fates_are =
        subst (λ (r : Result Ended Stop). Tells told holds count t custom cut ticks r fates was is) (sym answer_is)
        (subst (λ (fs : List Attempt). Tells told holds count t custom cut ticks (end_by done (answer_of (topology_in e) (cut_in e) (shape e))) fs was is) (sym fates_are) (tells_by ticks done e0 e was is went))

    -- Where a follower failed, parts stand at what was committed before too.
    pub less_at_end : (ticks txid : ℕ) (done : Result (Unit {0}) RunFault) (e0 e : Engine I g) (was is : List (StatePart S)) (answer : Result Ended Stop) (fates : List Attempt) → WentOn ticks done e0 e was is
        → answer ≡ end_by done (answer_of (topology_in e) (cut_in e) (shape e)) → fates ≡ e.fates → answer ≡ Err (stop.Follow txid) → StandLess holds t custom cut fates was is
    less_at_end ticks txid (Ok ok) e0 e was is answer fates went answer_is fates_are is_follow =
        absurd (no_follower (shape e).desk.exhausted (is_finished (topology_in e) (cut_in e) (shape e).desk) (length (committed e.fates)) txid (sym answer_is ∙ is_follow))
    less_at_end ticks txid (Err (fault.BadCell key)) e0 e was is answer fates went answer_is fates_are is_follow = absurd (follow_no_cell answer txid key is_follow answer_is)
    less_at_end ticks txid (Err fault.Memory) e0 e was is answer fates went answer_is fates_are is_follow = absurd (let a : answer ≡ Err stop.Memory = answer_is in let b = is_follow in cc)
    less_at_end ticks txid (Err (fault.Follow own)) e0 e was is answer fates went answer_is fates_are is_follow =
        let failed = went.failed own refl in
        let less = failed.less in
        let one = some_come tells holds count t custom cut laws input keeps told e0 less.mid was less.between went.started went.planned less.leads in
        let stands = stands_behind holds count t custom cut laws failed.ends.earlier was is (left_stands holds count t custom cut laws input one.0 less.mid failed.ends.earlier was less.between is one.1 less.leaves) in
        λ earlier last added before are stand.
        let same : failed.ends.earlier ≡ earlier = same_earlier failed.ends.earlier earlier failed.ends.last last (sym failed.ends.added ∙ sym fates_are ∙ added) in
        subst (λ (fs : List Attempt). PartsStand holds t custom cut (before ++ committed_batches fs) is) same (stands before are stand)
