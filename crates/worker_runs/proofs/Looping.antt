-- Rounds of the caller and stretches, one after another.
use Rattle.std.proofs.Common.{◌≡◌, ◌<◌, ℕ, zero, suc, ◌+◌, ◌-◌, ◌^◌, false, List, [], ◌∷◌, ◌++◌, length, length-append, drop, min, sum, Result, Ok, Err, refl, sym, ap, subst, ◌∙◌, arith}
use Rattle.std.specs.Prelude.{All, OnErr, OnOk, get_or}
use Rattle.std.specs.List.{AllByRecursion}
use Rattle.std.specs.Result.{IsErrAnd}
use Rattle.std.proofs.lemmas.List.Elements.{All-from_recursion, recursion_from_All}
use Rattle.event_worlds.specs.bolt_ops.RowOp.{Custom}
use Rattle.worker_stretches.specs.box_rows.declared.mail.Mail.{Mail}
use Rattle.worker_stretches.specs.event_engine.declared.engine.Engine.{Engine}
use Rattle.worker_stretches.specs.event_engine.Engines.{IsReady, IsStill, cut_in, has_ended}
use Rattle.event_worlds.specs.Accounted.{IsInput}
use Rattle.event_worlds.specs.Rounds.{DoesNotCoincide, rounds_needed}
use Rattle.pulse_board.specs.declared.seat.Board.{Board}
use Rattle.pulse_board.specs.declared.seat.BoardSeat.{BoardSeat}
use Rattle.pulse_board.specs.Seats.{book_of}
use Rattle.worker_rounds.proofs.schedule_core.Going.{leads-drives, leads-none, leads-short}
use Rattle.worker_rounds.proofs.schedule_core.Rounding.{asked-more, asked-none, asked_shut-more, asked_shut-none}
use Rattle.worker_rounds.specs.schedule_core.Driving.{AreKept, WantsMemory}
use Rattle.worker_rounds.specs.schedule_core.Laws.{Laws}
use Rattle.worker_rounds.specs.schedule_core.Rounding.{Asked, AskedShut}
use Rattle.worker_rounds.specs.schedule_core.Runs.{ticks_between}
use Rattle.worker_rounds.specs.schedule_core.declared.fault.RunFault.{RunFault}
use Rattle.worker_rounds.specs.schedule_core.declared.fault.RunFault.TheVariants as fault
use Rattle.event_worlds.specs.state_parts.declared.parts.StatePart.{StatePart}
use Rattle.event_worlds.specs.state_parts.PartPlans.{AreParts}
use Rattle.event_worlds.specs.storm_ids.declared.ids.Ids.{Ghosts}
use Rattle.storm_stores.specs.CellMaps.{CellMap}
use Rattle.storm_ticks.specs.Ticking.{first_answer, handed_on}
use Rattle.task_queues.specs.declared.pass.Mailbox.{Mailbox}
use Rattle.task_queues.specs.declared.pass.Pass.{Pass}
use Rattle.event_worlds.specs.topology_plan.Topology.{Topology}
use Rattle.event_worlds.specs.taken_records.Cuts.{Cut}
use Rattle.worker_rounds.proofs.Calling.{is-short, kept-none}
use Rattle.worker_rounds.proofs.Offering.{offered-still}
use Rattle.worker_rounds.proofs.Going.{moves-by, runs-quiet, runs-then, runs-where}
use Rattle.worker_rounds.specs.Running.{Broken, HasOffered, IsGathered, RunsOn, Stopped, WasStopped}
use Rattle.worker_runs.proofs.Few.{IsBounded, rounds-left}
use Rattle.worker_runs.proofs.Going.{runs-none, stood-runs}
use Rattle.worker_runs.proofs.Handed.{answered-all, sum-more, ticks-below}
use Rattle.worker_runs.proofs.Keeping.{gathered-back, kept-then}
use Rattle.worker_runs.specs.Going.{RanOn, Went}
use Rattle.worker_runs.specs.WorkerRuns.{DrewEach}
use Rattle.worker_stretches.specs.Standing.{GoesOn}
use Rattle.worker_rounds.specs.worker_turns.Carrying.{AreEmpty}

-- so many more were drawn, of a count that has not come to its end
drawn-more : (tick top drawn later sums n : ℕ) → tick ≡ min drawn top → tick ≡ min sums top → min later top ≡ min (drawn + n) top → sums + n < top → later ≡ sums + n
drawn-more tick top drawn later sums n seen ticked rose few = omega arith

-- a count that ends rises by one more answer
min-more : (tick top a n : ℕ) → tick ≡ min (min a top + n) top → tick ≡ min (a + n) top
min-more tick top a n is = omega arith

-- what is so of each of two lists is so of each of the first
All-first : {X : Type 0} (P : X → Type 0) (xs ys : List X) → All P (xs ++ ys) → All P xs
All-first {X} P xs ys all = All-from_recursion P xs (by xs (recursion_from_All P (xs ++ ys) all))
  where
    by : (zs : List X) → AllByRecursion P (zs ++ ys) → AllByRecursion P zs
    by [] each = tt
    by (z ∷ zs) each = (each.0, by zs each.1)

short-ok : (X : Type 0) (done : Result (Unit {0}) RunFault) (error : RunFault) → IsErrAnd done (λ e. e ≡ error) → OnOk done X
short-ok X (Ok ok) error exits = absurd exits
short-ok X (Err e) error exits = tt

-- want of memory is no bad cell
pub no-key : (done : Result (Unit {0}) RunFault) (error : RunFault) (key : List ℕ) → IsErrAnd done (λ e. e ≡ error) → error ≡ fault.Memory → done ≡ Err (fault.BadCell key) → ⊥
no-key (Ok ok) error key exits is bad = absurd exits
no-key (Err e) error key exits is bad = let a : e ≡ error = exits in cc

-- nor a fault of a follower
no-number : (done : Result (Unit {0}) RunFault) (error : RunFault) (txid : ℕ) → IsErrAnd done (λ e. e ≡ error) → error ≡ fault.Memory → done ≡ Err (fault.Follow txid) → ⊥
no-number (Ok ok) error txid exits is met = absurd exits
no-number (Err e) error txid exits is met = let a : e ≡ error = exits in cc

-- what stopped a call stops its caller
pub stop-handed : (r s : Result (Unit {0}) RunFault) (error : RunFault) → IsErrAnd r (λ x. x ≡ error) → s ≡ Err error → WasStopped r → WasStopped s
stop-handed (Ok ok) s error exits was stopped = absurd stopped
stop-handed (Err e) s error exits was stopped =
    subst (λ (x : Result (Unit {0}) RunFault). WasStopped x) (sym was) (subst (λ (x : RunFault). WasStopped (Err x)) exits stopped)

-- what is so where a call met a fault
pub err-told : {A E P : Type 0} (r : Result A E) (error : E) → r ≡ Err error → OnErr r P → P
err-told {A} {E} {P} r error is so = subst (λ (x : Result A E). OnErr x P) is so

-- an engine's own input is one
input-own : {I : Type 0} {g : Ghosts I} {t : Topology} {cut : Cut} (e : Engine I g) → IsReady t cut e → IsInput t cut → IsInput t (cut_in e)
input-own {I} {g} {t} {cut} e ready input = subst (λ (k : Cut). IsInput t k) (sym ready.seated.of_cut) input

-- ---- which partitions are shut

drop-none : (i : ℕ) → ◌≡◌ {A = List ℕ} (drop i []) []
drop-none zero = refl
drop-none (suc i) = refl

-- where a source tells that all are open it answers so
asked-open : {V : Type 0} (availing : V → List ℕ → Type 0) (shuts : List ℕ) (shut : ℕ) (before mid : V) → AskedShut availing shuts before mid → ((xs : List ℕ) → availing mid xs → shut ≡ get_or xs 0 0) → availing before [] → shut ≡ 0
asked-open availing shuts shut before mid so told is = told [] (subst (availing mid) (drop-none (length shuts)) (so.rest [] is))

-- none of the partitions is to be shut
abbrev pub NoneShut : {V : Type 0} → (V → List ℕ → Type 0) → Topology → V → Type 0
NoneShut availing t avail = 0 < t.partitions → availing avail []

module _ {I S T V : Type 0} {g : Ghosts I} (tells : I → (ℕ → ℕ) → ℕ → Type 0) (holds : S → CellMap → Type 0) (count : S → ℕ) (handed : T → ℕ) (ticking : T → List ℕ → Type 0) (availing : V → List ℕ → Type 0) (t : Topology) (custom : Custom) (cut : Cut) (avail : V) where
  module _ (laws : Laws count t custom cut) (before : T) where
    -- ---- rounds

    went-none : (e : Engine I g) (row : List (Pass Mail)) (parts : List (StatePart S)) → e.tick ≡ 0 → Went tells holds count handed ticking t custom cut (NoneShut availing t avail) before [] e e row row parts parts
    went-none e row parts start = record {
      rounds = 0;
      many = refl;
      runs = runs-none tells holds count t custom cut laws (NoneShut availing t avail) e row parts;
      ticked = start;
      few = λ to_come told low can shut_none opened apart outcomes all stood. omega arith;
    }

    module _ (answers : List ℕ) (old mid : Engine I g) (row mid_row : List (Pass Mail)) (was p : List (StatePart S)) (went : Went tells holds count handed ticking t custom cut (NoneShut availing t avail) before answers old mid row mid_row was p) where
      -- one more round, from an engine at which all is not over
      went-round : (now : T) (n : ℕ) (new : Engine I g) (now_row : List (Pass Mail)) (is : List (StatePart S)) → IsBounded t custom cut → Asked handed ticking answers before now → AreEmpty mid_row → has_ended mid ≡ false → new.tick ≡ min (mid.tick + n) (2 ^ 64 - 1)
          → RunsOn tells holds count t custom cut (NoneShut availing t avail) 1 mid new mid_row now_row p is → Went tells holds count handed ticking t custom cut (NoneShut availing t avail) before (answers ++ n ∷ []) old new row now_row was is
      went-round now n new now_row is bounded asked empty open_still ticked next = record {
        rounds = went.rounds + 1;
        many = let m = went.many in let l = length-append answers (n ∷ []) in omega arith;
        runs = runs-then tells holds count t custom cut laws (NoneShut availing t avail) went.rounds 1 old mid new row mid_row now_row was p is went.runs next;
        ticked = min-more new.tick (2 ^ 64 - 1) (sum answers) n (ticked ∙ ap (λ (k : ℕ). min (k + n) (2 ^ 64 - 1)) went.ticked) ∙ ap (λ (k : ℕ). min k (2 ^ 64 - 1)) (sym (sum-more answers n));
        few = λ to_come told low can shut_none opened apart outcomes all stood.
            let first = stood-runs tells holds count t custom cut laws (NoneShut availing t avail) went.rounds 1 old mid new row mid_row now_row was p is went.runs next outcomes stood in
            let apart_mid = All-first DoesNotCoincide mid.fates next.goes.more (subst (All DoesNotCoincide) next.goes.added apart) in
            let most = went.few to_come told low can shut_none opened apart_mid outcomes all first in
            let below = ticks-below mid.tick went.rounds (rounds_needed t custom cut) t.buckets answers to_come went.ticked went.many (asked.first to_come told) most low in
            let left = rounds-left tells t custom cut (NoneShut availing t avail) outcomes went.rounds old mid row mid_row went.runs.goes first bounded empty can shut_none opened apart_mid all below open_still in omega arith;
      }

      -- work that no round is of
      went-still : (new : Engine I g) (now_row : List (Pass Mail)) → new.tick ≡ mid.tick → IsStill mid new → GoesOn tells t custom cut 0 mid new mid_row now_row [] [] → Went tells holds count handed ticking t custom cut (NoneShut availing t avail) before answers old new row now_row was p
      went-still new now_row same still goes =
          let next = runs-quiet tells holds count t custom cut laws (NoneShut availing t avail) 0 mid new mid_row now_row p still (moves-by tells t custom cut (NoneShut availing t avail) 0 mid new mid_row now_row goes) in record {
            rounds = went.rounds + 0;
            many = let m = went.many in omega arith;
            runs = runs-then tells holds count t custom cut laws (NoneShut availing t avail) went.rounds 0 old mid new row mid_row now_row was p p went.runs next;
            ticked = same ∙ went.ticked;
            few = λ to_come told low can shut_none opened apart outcomes all stood.
                let first = stood-runs tells holds count t custom cut laws (NoneShut availing t avail) went.rounds 0 old mid new row mid_row now_row was p p went.runs next outcomes stood in
                let most = went.few to_come told low can shut_none opened (subst (All DoesNotCoincide) still.fates apart) outcomes all first in omega arith;
          }

  module _ (boxes : List (Mailbox Mail)) (board : Board) where
    -- rounds were carried out with these answers, and nobody works
    pub record Turning (old mid : Engine I g) (row mid_row : List (Pass Mail)) (seat : BoardSeat) (was p : List (StatePart S)) (before now : T) (avail_now : V) : Type 0 where
      pub gathered : IsGathered t cut boxes board mid mid_row seat
      pub answers : List ℕ
      pub asked : Asked handed ticking answers before now
      pub went : Went tells holds count handed ticking t custom cut (NoneShut availing t avail) before answers old mid row mid_row was p
      pub kept : AreKept holds was p
      pub shuts : List ℕ
      pub as_often : length shuts ≡ length answers
      pub asked_shut : AskedShut availing shuts avail avail_now
      pub offered : IsInput t cut → 0 < t.partitions → HasOffered t.partitions [] old → HasOffered t.partitions shuts mid

    module _ (laws : Laws count t custom cut) (old : Engine I g) (row : List (Pass Mail)) (was : List (StatePart S)) (before : T) where
      pub turning-none : (seat : BoardSeat) → IsGathered t cut boxes board old row seat → old.tick ≡ 0 → Turning old old row row seat was was before before avail
      turning-none seat gathered start = record {
        gathered = gathered;
        answers = [];
        asked = asked-none handed ticking before;
        went = went-none laws before old row was start;
        kept = kept-none holds was;
        shuts = [];
        as_often = refl;
        asked_shut = asked_shut-none availing avail;
        offered = λ input some has. has;
      }

      module _ (mid : Engine I g) (mid_row : List (Pass Mail)) (seat : BoardSeat) (p : List (StatePart S)) (now : T) (avail_now : V) (turning : Turning old mid row mid_row seat was p before now avail_now) where
        pub parts-now : AreParts t was → AreParts t p
        parts-now planned = turning.went.runs.plans ∙ planned

        -- it is over
        pub turned-over : RanOn tells holds count handed ticking t custom cut (NoneShut availing t avail) availing (Ok tt) old mid row mid_row was p before now avail avail_now
        turned-over = record {
          answers = turning.answers;
          asked = turning.asked;
          shuts = turning.shuts;
          as_often = turning.as_often;
          asked_shut = turning.asked_shut;
          offered = λ had input some has. turning.offered input some has;
          went = turning.went;
          bad = λ key is. absurd (let e : Ok tt ≡ Err (fault.BadCell key) = is in cc);
          failed = λ txid is. absurd (let e : Ok tt ≡ Err (fault.Follow txid) = is in cc);
          short = λ is. absurd (let e : Ok tt ≡ Err fault.Memory = is in cc);
        }

        -- memory was wanted in work that no round is of
        pub turned-short : (done : Result (Unit {0}) RunFault) (error : RunFault) (new : Engine I g) (now_row : List (Pass Mail)) → IsErrAnd done (λ e. e ≡ error) → error ≡ fault.Memory → IsStill mid new → RanOn tells holds count handed ticking t custom cut (NoneShut availing t avail) availing done old new row now_row was p before now avail avail_now
        turned-short done error new now_row exits is still = record {
          answers = turning.answers;
          asked = turning.asked;
          shuts = turning.shuts;
          as_often = turning.as_often;
          asked_shut = turning.asked_shut;
          offered = λ had input some has. absurd (had (is-short done error exits is));
          went = short-ok _ done error exits;
          bad = λ key bad. absurd (no-key done error key exits is bad);
          failed = λ txid met. absurd (no-number done error txid exits is met);
          short = λ met. record {
            rounds = turning.went.rounds;
            mid = mid;
            mid_row = mid_row;
            between = p;
            runs = turning.went.runs;
            empty = turning.gathered.empty;
            out = leads-short tells holds count t custom cut laws mid mid new.fates p p (leads-none tells holds count t custom cut laws mid p) still.fates;
          };
        }

        -- work that no round is of
        pub turning-still : (new : Engine I g) (now_row : List (Pass Mail)) (now_seat : BoardSeat) → IsGathered t (cut_in mid) boxes board new now_row now_seat → new.tick ≡ mid.tick → IsStill mid new → GoesOn tells t custom (cut_in mid) 0 mid new mid_row now_row [] [] → Turning old new row now_row now_seat was p before now avail_now
        turning-still new now_row now_seat gathered same still goes = record {
          gathered = gathered-back t boxes board cut mid new now_row now_seat turning.gathered.ready gathered;
          answers = turning.answers;
          asked = turning.asked;
          went = went-still laws before turning.answers old mid row mid_row was p turning.went new now_row same still
              (subst (λ (k : Cut). GoesOn tells t custom k 0 mid new mid_row now_row [] []) turning.gathered.ready.seated.of_cut goes);
          kept = turning.kept;
          shuts = turning.shuts;
          as_often = turning.as_often;
          asked_shut = turning.asked_shut;
          offered = λ input some has. offered-still t.partitions turning.shuts mid new still (turning.offered input some has);
        }

        -- the source was asked once more
        module _ (n : ℕ) (later : T) (counted : handed later ≡ handed_on (handed now) n) (first : (xs : List ℕ) → ticking now xs → n ≡ first_answer xs) (rest : (xs : List ℕ) → ticking now xs → ticking later (drop 1 xs)) where
          asked-now : Asked handed ticking (turning.answers ++ n ∷ []) before later
          asked-now = asked-more handed ticking turning.answers n before now later turning.asked counted first rest

          -- a stop came: the seat drew a number for each tick that was handed out
          pub turned-drew : (now_seat : BoardSeat) → min (length (book_of now_seat).drawn) (2 ^ 64 - 1) ≡ min (length (book_of seat).drawn + n) (2 ^ 64 - 1) → DrewEach (ticks_between (handed before) (handed later)) now_seat
          turned-drew now_seat rose = λ few.
              let all = answered-all (turning.answers ++ n ∷ []) (handed before) (handed later) asked-now.handed_out few in
              let sums = sum-more turning.answers n in
              drawn-more mid.tick (2 ^ 64 - 1) (length (book_of seat).drawn) (length (book_of now_seat).drawn) (sum turning.answers) n turning.gathered.in_time turning.went.ticked rose (omega arith) ∙ sym sums ∙ all

          -- and which partitions are shut was asked too
          module _ (shut : ℕ) (avail_later : V) (told : (xs : List ℕ) → availing avail_now xs → shut ≡ get_or xs 0 0) (avail_rest : (xs : List ℕ) → availing avail_now xs → availing avail_later (drop 1 xs)) where
            asked-both : length (turning.shuts ++ shut ∷ []) ≡ length (turning.answers ++ n ∷ [])
            asked-both = length-append turning.shuts (shut ∷ []) ∙ (let e = turning.as_often in let l = length-append turning.answers (n ∷ []) in omega arith)

            -- a round followed
            pub turning-round : IsBounded t custom cut → has_ended mid ≡ false → (new : Engine I g) (now_row : List (Pass Mail)) (now_seat : BoardSeat) (is : List (StatePart S)) → IsGathered t (cut_in mid) boxes board new now_row now_seat → new.tick ≡ min (mid.tick + n) (2 ^ 64 - 1)
                → RunsOn tells holds count t custom (cut_in mid) (0 < t.partitions → shut ≡ 0) 1 mid new mid_row now_row p is → AreKept holds p is
                → (IsInput t (cut_in mid) → 0 < t.partitions → (xs : List ℕ) → HasOffered t.partitions xs mid → HasOffered t.partitions (xs ++ shut ∷ []) new)
                → Turning old new row now_row now_seat was is before later avail_later
            turning-round bounded open_still new now_row now_seat is gathered ticked runs kept offered = record {
              gathered = gathered-back t boxes board cut mid new now_row now_seat turning.gathered.ready gathered;
              answers = turning.answers ++ n ∷ [];
              asked = asked-now;
              went = went-round laws before turning.answers old mid row mid_row was p turning.went now n new now_row is bounded turning.asked turning.gathered.empty open_still ticked
                  (runs-where tells holds count t custom cut (0 < t.partitions → shut ≡ 0) (NoneShut availing t avail) (λ said some. asked-open availing turning.shuts shut avail avail_now turning.asked_shut told (said some)) 1 mid new mid_row now_row p is
                  (subst (λ (k : Cut). RunsOn tells holds count t custom k (0 < t.partitions → shut ≡ 0) 1 mid new mid_row now_row p is) turning.gathered.ready.seated.of_cut runs));
              kept = kept-then holds was p is turning.kept kept;
              shuts = turning.shuts ++ shut ∷ [];
              as_often = asked-both;
              asked_shut = asked_shut-more availing turning.shuts shut avail avail_now avail_later turning.asked_shut told avail_rest;
              offered = λ input some has. offered (input-own mid turning.gathered.ready input) some turning.shuts (turning.offered input some has);
            }

            -- which met a fault
            pub turned-bad : (done : Result (Unit {0}) RunFault) (error : RunFault) (new : Engine I g) (now_row : List (Pass Mail)) (is : List (StatePart S)) → IsErrAnd done (λ e. e ≡ error)
                → (WasStopped done → now_row ≡ mid_row)
                → ((key : List ℕ) → done ≡ Err (fault.BadCell key) → Broken tells holds count t custom (cut_in mid) shut n key mid new mid_row p is)
                → ((txid : ℕ) → done ≡ Err (fault.Follow txid) → Stopped tells holds count t custom (cut_in mid) shut n txid mid new mid_row p is)
                → (done ≡ Err fault.Memory → WantsMemory tells holds count t custom (cut_in mid) mid new.fates p is)
                → ((done ≡ Err fault.Memory → ⊥) → IsInput t (cut_in mid) → 0 < t.partitions → (xs : List ℕ) → HasOffered t.partitions xs mid → HasOffered t.partitions (xs ++ shut ∷ []) new)
                → RanOn tells holds count handed ticking t custom cut (NoneShut availing t avail) availing done old new row now_row was is before later avail avail_later
            turned-bad done error new now_row is exits same bad failed short offered = record {
              answers = turning.answers ++ n ∷ [];
              asked = asked-now;
              shuts = turning.shuts ++ shut ∷ [];
              as_often = asked-both;
              asked_shut = asked_shut-more availing turning.shuts shut avail avail_now avail_later turning.asked_shut told avail_rest;
              offered = λ had input some has. offered had (input-own mid turning.gathered.ready input) some turning.shuts (turning.offered input some has);
              went = short-ok _ done error exits;
              bad = λ key met. record {
                first = turning.answers;
                last = n;
                answers_are = refl;
                mid = mid;
                mid_row = mid_row;
                between = p;
                went = turning.went;
                shut = shut;
                broken = subst (λ (k : Cut). Broken tells holds count t custom k shut n key mid new mid_row p is) turning.gathered.ready.seated.of_cut (bad key met);
                empty = turning.gathered.empty;
                same = same (subst (λ (r : Result (Unit {0}) RunFault). WasStopped r) (sym met) tt);
              };
              failed = λ txid met. record {
                first = turning.answers;
                last = n;
                answers_are = refl;
                mid = mid;
                mid_row = mid_row;
                between = p;
                went = turning.went;
                shut = shut;
                stopped = subst (λ (k : Cut). Stopped tells holds count t custom k shut n txid mid new mid_row p is) turning.gathered.ready.seated.of_cut (failed txid met);
                empty = turning.gathered.empty;
                same = same (subst (λ (r : Result (Unit {0}) RunFault). WasStopped r) (sym met) tt);
              };
              short = λ met.
                  let wants = subst (λ (k : Cut). WantsMemory tells holds count t custom k mid new.fates p is) turning.gathered.ready.seated.of_cut (short met) in record {
                    rounds = turning.went.rounds;
                    mid = mid;
                    mid_row = mid_row;
                    between = p;
                    runs = turning.went.runs;
                    empty = turning.gathered.empty;
                    out = record { mid = wants.mid; between = wants.between; leads = leads-drives tells holds count t custom cut laws.accounted wants.steps mid wants.mid p wants.between wants.drives; leaves = wants.leaves };
                  };
            }
