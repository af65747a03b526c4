-- Writes of parts of states whose ackers meet at once what they are told, among an engine's events.
use Rattle.std.proofs.Common.{◌≡◌, ◌<◌, ◌≤◌, ◌∙◌, ℕ, zero, suc, ◌+◌, ◌%◌, ◌==◌, Bool, true, false, cond, List, [], ◌∷◌, ◌++◌, length, map, append-nil, Option, None, Some, get_or, set, sym, refl, ap, subst, arith}
use Rattle.std.specs.Prelude.{replicate, slice_get}
use Rattle.std.specs.List.{AllByRecursion, range_with_len}
use Rattle.std.specs.Option.{option_to_list}
use Rattle.std.proofs.lemmas.List.{length-map, map-set, set-get_or}
use Rattle.std.proofs.lemmas.Nat.{mod_below}
use Rattle.event_worlds.specs.acker_core.Entries.{met, told_of}
use Rattle.event_worlds.specs.bolt_ops.RowOp.{Custom, IsCustom-reversed, reversed}
use Rattle.event_worlds.specs.bolt_task.Executing.{collector_in, execution_at, rows_of, topology_at}
use Rattle.event_worlds.specs.commit_order.Orders.{Stand, collector_of, stand_of}
use Rattle.event_worlds.specs.rotating_ledger.Held.{Held, Rotation}
use Rattle.event_worlds.specs.state_parts.declared.answer.CommitOutcome.{CommitOutcome}
use Rattle.event_worlds.specs.storm_ids.declared.ids.Ids.{Ghosts}
use Rattle.event_worlds.specs.topology_plan.Topology.{Topology, tasks_in_all}
use Rattle.event_worlds.specs.tree_model.declared.messages.AckMsg.{AckMsg}
use Rattle.event_worlds.specs.tree_model.declared.messages.Parcel.{Parcel}
use Rattle.event_worlds.specs.tree_model.declared.messages.Parcel.TheVariants.{ToTask, ToAcker}
use Rattle.event_worlds.specs.tree_model.declared.messages.Tuple.{Tuple}
use Rattle.event_worlds.specs.tree_model.Lists.{root_of}
use Rattle.event_worlds.specs.taken_records.Cuts.{Cut}
use Rattle.event_worlds.specs.tuple_account.Histories.{acker_of, execution_parcels}
use Rattle.event_worlds.specs.output_collector.Collectors.{ids_in}
use Rattle.event_worlds.specs.Orderly.{IsOrderly}
use Rattle.event_worlds.specs.Worlds.{Known, Step, World, acker_at, acker_step, acted, drew, execution_by, is_over, next, no_acker, no_task, of_acker, of_open, of_outcome, of_shut, of_task, of_tick, of_turn, run, sent, stand_moved, step, task_at, task_needs, task_step, with_task}
use Rattle.event_worlds.proofs.Orderly.{orderly-acker, orderly-task}
use Rattle.event_engine.specs.Boosts.{GoesBeside, GoesUpTo, IsBeside, WritesTo, WroteTo, task_steps}
use Rattle.event_engine.specs.Engines.{Goes, IsReady, IsSeated, IsStill, cut_in, shape, sources, topology_in}
use Rattle.event_engine.specs.Seats.{AreSeats, HasBuckets, IsIdleAt, IsSeatOf, TellsNext, TellsNextAt, WritesAt, Writes, WroteAt, acker_side, buckets_in, source_in, task_side}
use Rattle.event_engine.specs.declared.acker.AckerSeat.{AckerSeat}
use Rattle.event_engine.specs.declared.engine.Engine.{Engine}
use Rattle.event_engine.specs.declared.task.TaskSeat.{TaskSeat}
use Rattle.event_engine.proofs.AtOnce.{at_once, first_step, at_first}
use Rattle.event_engine.proofs.EngineLemmas.{ready_still, seated_by}
use Rattle.event_engine.proofs.GoesLemmas.{acker_law, goes-none, goes-then, task_law}
use Rattle.event_engine.proofs.SeatLemmas.{at-some, buckets_kept, draws-none, get-map, seat_at, seats_set, side-same}

-- ---- steps of a task and of ackers

only-append : (n : ℕ) (xs ys : List Step) → AllByRecursion (IsBeside n) xs → AllByRecursion (IsBeside n) ys → AllByRecursion (IsBeside n) (xs ++ ys)
only-append n [] ys first second = second
only-append n (x ∷ xs) ys first second = (first.0, only-append n xs ys first.1 second)

steps-append : (xs ys : List Step) → task_steps (xs ++ ys) ≡ task_steps xs + task_steps ys
steps-append [] ys = omega arith
steps-append (of_task m ∷ xs) ys = let e = steps-append xs ys in omega arith
steps-append (of_acker a ∷ xs) ys = steps-append xs ys
steps-append (of_turn ∷ xs) ys = steps-append xs ys
steps-append (of_outcome ∷ xs) ys = steps-append xs ys
steps-append (of_tick ∷ xs) ys = steps-append xs ys
steps-append (of_shut q ∷ xs) ys = steps-append xs ys
steps-append (of_open q ∷ xs) ys = steps-append xs ys

only-ackers : (n a k : ℕ) → AllByRecursion (IsBeside n) (replicate k (of_acker a))
only-ackers n a zero = tt
only-ackers n a (suc k) = (tt, only-ackers n a k)

no-tasks : (a k : ℕ) → task_steps (replicate k (of_acker a)) ≡ 0
no-tasks a zero = refl
no-tasks a (suc k) = no-tasks a k

module _ {I : Type 0} {g : Ghosts I} (tells : I → (ℕ → ℕ) → ℕ → Type 0) (t : Topology) (custom : Custom) (cut : Cut) (n : ℕ) where
  pub beside-none : (most : ℕ) (e : Engine I g) → GoesBeside tells t custom cut most n e e
  beside-none most e = record { steps = []; only = tt; few = omega arith; goes = goes-none tells t custom cut e }

  pub beside-then : (most more : ℕ) (a b c : Engine I g) → GoesBeside tells t custom cut most n a b → GoesBeside tells t custom cut more n b c → GoesBeside tells t custom cut (most + more) n a c
  beside-then most more a b c first second = record {
    steps = first.steps ++ second.steps;
    only = only-append n first.steps second.steps first.only second.only;
    few = let e = steps-append first.steps second.steps in let f = first.few in let s = second.few in omega arith;
    goes = goes-then tells t custom cut first.steps second.steps a b c first.goes second.goes;
  }

  pub beside-fewer : (few most : ℕ) (a b : Engine I g) → few ≤ most → GoesBeside tells t custom cut few n a b → GoesBeside tells t custom cut most n a b
  beside-fewer few most a b less goes = record { steps = goes.steps; only = goes.only; few = let f = goes.few in omega arith; goes = goes.goes }

  -- an acker's events
  pub beside-acker : (most k a : ℕ) (Rests : World → Type 0) (old new : Engine I g) → GoesUpTo tells t custom cut most (of_acker a) Rests old new → GoesBeside tells t custom cut k n old new
  beside-acker most k a Rests old new up = record {
    steps = replicate up.count (of_acker a);
    only = only-ackers n a up.count;
    few = let e = no-tasks a up.count in omega arith;
    goes = up.goes;
  }

-- what is so for an engine's own plan and input
module _ {I : Type 0} {g : Ghosts I} (tells : I → (ℕ → ℕ) → ℕ → Type 0) (t : Topology) (cut : Cut) (mid new : Engine I g) (ready : IsReady t cut mid) (custom : Custom) where
  pub beside_there : (most n : ℕ) → GoesBeside tells (topology_in mid) custom (cut_in mid) most n mid new → GoesBeside tells t custom cut most n mid new
  beside_there most n own =
      subst (λ (u : Topology). GoesBeside tells u custom cut most n mid new) ready.seated.of_topology
      (subst (λ (k : Cut). GoesBeside tells (topology_in mid) custom k most n mid new) ready.seated.of_cut own)

-- ---- one write is three steps

desk_sent : (t : Topology) (parcel : Option Parcel) (w : World) → (sent t parcel w).desk ≡ w.desk
desk_sent t None w = refl
desk_sent t (Some (ToTask n tuple)) w = refl
desk_sent t (Some (ToAcker n m)) w = refl

on_still : (t : Topology) (custom : Custom) (cut : Cut) (n : ℕ) (w : World) → is_over t cut w ≡ false → is_over t cut (task_step t custom n [] w) ≡ false
on_still t custom cut n w on =
    let side = (acted t custom n [] (task_at t n w)).side in
    let same = desk_sent t (acted t custom n [] (task_at t n w)).parcel (with_task n side w) in
    ap (λ d. is_over t cut (record w { desk = d })) same ∙ on

drew-none : (n : ℕ) (counts : ℕ → ℕ) (s : ℕ) → drew n 0 counts s ≡ counts s
drew-none n counts s = by (s == n)
  where
    by : (b : Bool) → cond b (counts s + 0) (counts s) ≡ counts s
    by true = omega arith
    by false = refl

module _ (t : Topology) (custom : Custom) (cut : Cut) (words : ℕ → ℕ → ℕ) (outcomes : List CommitOutcome) (n : ℕ) where
  -- a task's step that draws nothing
  quiet-step : (k : Known) → is_over t cut k.world ≡ false → task_needs t custom (task_at t n k.world) ≡ 0
      → next t custom cut words outcomes (of_task n) k ≡ record { world = task_step t custom n [] k.world; counts = drew n 0 k.counts }
  quiet-step k on none =
      ap (λ (b : Bool). cond b k (step t custom cut words outcomes (of_task n) k)) on ∙ task_law t custom cut n words outcomes k
      ∙ ap (λ (needs : ℕ). record { world = task_step t custom n (map (words n) (range_with_len (k.counts n) needs)) k.world; counts = drew n needs k.counts }) none

module _ {I : Type 0} {g : Ghosts I} (old new : Engine I g) (n : ℕ) (wrote : WroteTo n old new) (still : IsStill old new) where
  pub goes-wrote : (tells : I → (ℕ → ℕ) → ℕ → Type 0) (custom : Custom) → is_over (topology_in old) (cut_in old) (shape old) ≡ false
      → Goes tells (topology_in old) custom (cut_in old) (of_task n ∷ of_task n ∷ of_acker wrote.acker ∷ []) old new
  goes-wrote tells custom on =
      let t = topology_in old in
      let cut = cut_in old in
      let w = shape old in
      let one = task_step t custom n [] w in
      let two = task_step t custom n [] one in
      let on_one = on_still t custom cut n w on in
      let on_two = on_still t custom cut n one on_one in record {
        given = λ s. [];
        draws = λ s before at. (before, ap (λ xs. slice_get xs s) wrote.same_sources ∙ at, draws-none tells before);
        none = λ s off. (refl, ap (λ xs. slice_get xs s) wrote.same_sources ∙ off);
        more = [];
        added = still.fates ∙ sym (append-nil old.fates);
        runs = λ words counts outcomes gives has.
            let k : Known = record { world = w; counts = counts } in
            let k1 : Known = record { world = one; counts = drew n 0 counts } in
            let k2 : Known = record { world = two; counts = drew n 0 (drew n 0 counts) } in
            let k3 : Known = record { world = acker_step t wrote.acker two; counts = drew n 0 (drew n 0 counts) } in
            let first : next t custom cut words outcomes (of_task n) k ≡ k1 = quiet-step t custom cut words outcomes n k on (wrote.none custom) in
            let second : next t custom cut words outcomes (of_task n) k1 ≡ k2 = quiet-step t custom cut words outcomes n k1 on_one (wrote.none_then custom) in
            let third : next t custom cut words outcomes (of_acker wrote.acker) k2 ≡ k3 =
            ap (λ (b : Bool). cond b k2 (step t custom cut words outcomes (of_acker wrote.acker) k2)) on_two ∙ acker_law t custom cut wrote.acker words outcomes k2
            in
            let all : run t custom cut words outcomes (of_task n ∷ of_task n ∷ of_acker wrote.acker ∷ []) k ≡ k3 =
            ap (λ (j : Known). next t custom cut words outcomes (of_acker wrote.acker) (next t custom cut words outcomes (of_task n) j)) first
            ∙ ap (λ (j : Known). next t custom cut words outcomes (of_acker wrote.acker) j) second ∙ third
            in (
              ap (λ (j : Known). j.world) all ∙ sym (wrote.steps custom),
              λ s. ap (λ (j : Known). j.counts s) all ∙ drew-none n (drew n 0 counts) s ∙ drew-none n counts s ∙ (let e : counts s ≡ counts s + 0 = omega arith in e),
            );
      }

  pub wrote-beside : (tells : I → (ℕ → ℕ) → ℕ → Type 0) (custom : Custom) → is_over (topology_in old) (cut_in old) (shape old) ≡ false → GoesBeside tells (topology_in old) custom (cut_in old) 2 n old new
  wrote-beside tells custom on = record {
    steps = of_task n ∷ of_task n ∷ of_acker wrote.acker ∷ [];
    only = (refl, (refl, (tt, tt)));
    few = omega arith;
    goes = goes-wrote tells custom on;
  }

  pub wrote-ready : n < tasks_in_all (topology_in old) → IsReady (topology_in old) (cut_in old) old → IsSeated (topology_in old) (cut_in old) new → IsReady (topology_in old) (cut_in old) new
  wrote-ready there ready seated =
      let t = topology_in old in
      let cut = cut_in old in
      let w = shape old in
      let one = task_step t reversed n [] w in
      let first = orderly-task t cut reversed w ready.input IsCustom-reversed n there ready.orderly [] (sym (wrote.none reversed)) in
      let second = orderly-task t cut reversed one ready.input IsCustom-reversed n there first [] (sym (wrote.none_then reversed)) in
      let third = orderly-acker t (task_step t reversed n [] one) second wrote.acker in
      ready_still t cut old new ready still seated (subst (IsOrderly t) (sym (wrote.steps reversed)) third)

-- ---- a write among seats

module _ {I : Type 0} {g : Ghosts I} (t : Topology) (n a : ℕ) (old : Engine I g) (left : List (TaskSeat I g)) (others : List AckerSeat)
    (did : WroteAt n a old.tasks.items left old.ackers.items others) (seat : IsSeatOf t n did.old) (next : TellsNext a did.old) (idle : IsIdleAt old.tick (acker_at a (shape old)))
    (there : n < length old.tasks.items) (low : a < length old.ackers.items) where
  abbrev now : TaskSeat I g
  now = did.old

  abbrev then : TaskSeat I g
  then = did.new

  abbrev w : World
  w = shape old

  abbrev st : Stand
  st = stand_of (collector_in now.task)

  abbrev m : AckMsg
  m = did.wrote.meets.message

  abbrev entries : List (Held (List AckMsg))
  entries = did.before.acker.held

  many_tasks : n < length (map task_side old.tasks.items)
  many_tasks = let e = length-map old.tasks.items (task_side {I = I} {g = g}) in omega (arith, there)

  many_ackers : a < length (map acker_side old.ackers.items)
  many_ackers = let e = length-map old.ackers.items acker_side in omega (arith, low)

  side_is : task_at t n w ≡ record { inbox = did.wrote.tuple ∷ then.inbox.items; outbox = []; stand = st }
  side_is = get-map task_side old.tasks.items n now (no_task t) did.at ∙ (λ i. record { inbox = did.wrote.front i; outbox = next.handed i; stand = st })

  acker_is : acker_at a w ≡ acker_side did.before
  acker_is = get-map acker_side old.ackers.items a did.before no_acker did.there

  idle_is : acker_at a w ≡ record { inbox = []; outbox = []; entries = entries; counted = old.tick }
  idle_is =
      let own : IsIdleAt old.tick (acker_side did.before) = subst (IsIdleAt old.tick) acker_is idle in
      acker_is ∙ (λ i. record { inbox = own.inbox i; outbox = own.outbox i; entries = entries; counted = own.counted i })

  root_is : next.tuple.root ≡ did.wrote.tuple.root
  root_is =
      let same : next.tuple ∷ next.rest ≡ did.wrote.tuple ∷ then.inbox.items = sym next.front ∙ did.wrote.front in
      let one : next.tuple ≡ did.wrote.tuple = cc in ap (λ (x : Tuple). x.root) one

  sends : (custom : Custom) → execution_parcels t custom (execution_by t custom n st did.wrote.tuple []) ≡ ToAcker a m ∷ []
  sends custom =
      let told : ToAcker (acker_of (topology_at now.task) (root_of m)) m ∷ [] ≡ execution_parcels (topology_at now.task) custom (execution_at custom now.task did.wrote.tuple []) = did.wrote.meets.sent custom in
      let acker : acker_of (topology_at now.task) (root_of m) ≡ a =
      ap (acker_of (topology_at now.task)) (did.wrote.meets.of_root ∙ sym root_is) ∙ sym next.acker
      in
      let own : execution_parcels (topology_at now.task) custom (execution_at custom now.task did.wrote.tuple []) ≡ execution_parcels t custom (execution_by t custom n st did.wrote.tuple []) =
      λ i. execution_parcels (seat.topology i) custom (execution_by (seat.topology i) custom (seat.number i) st did.wrote.tuple [])
      in
      sym own ∙ sym told ∙ (λ i. ToAcker (acker i) m ∷ [])

  rows_none : (custom : Custom) → rows_of t custom did.wrote.tuple ≡ []
  rows_none custom = ap (λ (u : Topology). rows_of u custom did.wrote.tuple) (sym seat.topology) ∙ did.wrote.meets.makes_none custom

  stays : (custom : Custom) → stand_moved (rows_of t custom did.wrote.tuple) 0 st ≡ st
  stays custom =
      ap (λ rows. stand_moved rows 0 st) (rows_none custom) ∙ (λ i. record { outlet = st.outlet; given = did.wrote.meets.same_count i })

  left_is : task_side then ≡ record { inbox = then.inbox.items; outbox = []; stand = st }
  left_is = λ i. record { inbox = then.inbox.items; outbox = (ap (λ o. o.items) did.wrote.outbox ∙ next.handed) i; stand = stand_of (did.wrote.meets.same_collector i) }

  told_is : acker_side did.after ≡ record { inbox = []; outbox = option_to_list (told_of m entries); entries = met m entries; counted = old.tick }
  told_is =
      let own : IsIdleAt old.tick (acker_side did.before) = subst (IsIdleAt old.tick) acker_is idle in
      ap acker_side did.wrote.acker
      ∙ (λ i. record { inbox = own.inbox i; outbox = option_to_list (did.wrote.meets.tells_it i); entries = (did.wrote.meets.meets i).held; counted = own.counted i })

  pub steps_at_once : (custom : Custom) → record w { tasks = map task_side left; ackers = map acker_side others } ≡ acker_step t a (task_step t custom n [] (task_step t custom n [] w))
  steps_at_once custom =
      let tasks : map task_side left ≡ set w.tasks n (record { inbox = then.inbox.items; outbox = []; stand = st }) =
      ap (map task_side) did.tasks_are ∙ map-set task_side old.tasks.items n then ∙ ap (set w.tasks n) left_is in
      let ackers : map acker_side others ≡ set w.ackers a (record { inbox = []; outbox = option_to_list (told_of m entries); entries = met m entries; counted = old.tick }) =
      ap (map acker_side) did.ackers_are ∙ map-set acker_side old.ackers.items a did.after ∙ ap (set w.ackers a) told_is in
      (λ i. record w { tasks = tasks i; ackers = ackers i })
      ∙ sym (at_once t custom n a w did.wrote.tuple then.inbox.items st m entries many_tasks many_ackers side_is idle_is (sends custom) (stays custom))

  pub none_drawn : (custom : Custom) → task_needs t custom (task_at t n w) ≡ 0
  none_drawn custom =
      let well = did.wrote.meets.well custom in
      ap (task_needs t custom) side_is ∙ sym (subst (λ (u : Topology). 0 ≡ task_needs u custom (record { inbox = did.wrote.tuple ∷ then.inbox.items; outbox = []; stand = st })) seat.topology well.ids)

  pub none_then : (custom : Custom) → task_needs t custom (task_at t n (task_step t custom n [] w)) ≡ 0
  none_then custom =
      ap (λ v. task_needs t custom (task_at t n v)) (first_step t custom n a w did.wrote.tuple then.inbox.items st m entries many_tasks many_ackers side_is idle_is (sends custom) (stays custom))
      ∙ ap (task_needs t custom) (at_first t custom n a w did.wrote.tuple then.inbox.items st m entries many_tasks many_ackers side_is idle_is (sends custom) (stays custom))

  pub same_tasks : map source_in left ≡ map source_in old.tasks.items
  same_tasks = ap (map source_in) did.tasks_are ∙ side-same source_in old.tasks.items n now then did.at (ap (λ c. c.ids) did.wrote.meets.same_collector)

  pub same_buckets : map buckets_in others ≡ map buckets_in old.ackers.items
  same_buckets =
      ap (map buckets_in) did.ackers_are
      ∙ side-same buckets_in old.ackers.items a did.before did.after did.there (ap buckets_in did.wrote.acker ∙ ap (λ (r : Rotation (List AckMsg)). r.buckets) did.wrote.meets.meets)

-- ---- the acker of a front tuple

some_at : {X : Type 0} (xs : List X) (n : ℕ) → n < length xs → (x : X) × (slice_get xs n ≡ Some x)
some_at [] n low = absurd (omega arith)
some_at (x ∷ xs) zero low = (x, refl)
some_at (x ∷ xs) (suc n) low = some_at xs n (omega arith)

-- it is one of the topology's
pub acker_low : {I : Type 0} {g : Ghosts I} (t : Topology) (cut : Cut) (n a : ℕ) (e : Engine I g) → IsReady t cut e → n < length e.tasks.items → TellsNextAt n a e.tasks.items → a < t.ackers
acker_low t cut n a e ready low tells =
    let found = some_at e.tasks.items n low in
    let next = tells found.0 found.1 in
    let seat = seat_at t n e.tasks.items found.0 ready.seated.tasks found.1 in
    let some : 1 ≤ t.ackers = ready.input.valid.ackers.0 in
    let is : a ≡ next.tuple.root.txid % t.ackers = next.acker ∙ ap (λ (u : Topology). acker_of u next.tuple.root) seat.topology in
    subst (λ (k : ℕ). k < t.ackers) (sym is) (mod_below next.tuple.root.txid t.ackers some)

-- ---- a write that was tried

pub wrote_at : {I : Type 0} {g : Ghosts I} (n a : ℕ) (tasks : List (TaskSeat I g)) (ackers : List AckerSeat) (x y : TaskSeat I g) (u v : AckerSeat) → n < length tasks → x ≡ get_or tasks n x
    → a < length ackers → u ≡ get_or ackers a u → (wrote : Bool) → Writes x y u v wrote → WritesAt n a tasks (set tasks n y) ackers (set ackers a v) wrote
wrote_at n a tasks ackers x y u v low is few was true did =
    record { old = x; new = y; before = u; after = v; at = at-some tasks n x low is; there = at-some ackers a u few was; wrote = did; tasks_are = refl; ackers_are = refl }
wrote_at n a tasks ackers x y u v low is few was false same =
    (ap (set tasks n) (same.0 ∙ is) ∙ set-get_or tasks n x, ap (set ackers a) (same.1 ∙ was) ∙ set-get_or ackers a u)

module _ {I : Type 0} {g : Ghosts I} (n a : ℕ) (old new : Engine I g) (ready : IsReady (topology_in old) (cut_in old) old) (there : n < tasks_in_all (topology_in old)) (tells : TellsNextAt n a old.tasks.items)
    (idle : IsIdleAt old.tick (acker_at a (shape old))) (low : n < length old.tasks.items) (few : a < length old.ackers.items) (plan : new.plan ≡ old.plan)
    (shape_is : shape new ≡ record (shape old) { tasks = map task_side new.tasks.items; ackers = map acker_side new.ackers.items }) (still : IsStill old new) where
  writes_seated : (wrote : Bool) → WritesAt n a old.tasks.items new.tasks.items old.ackers.items new.ackers.items wrote → IsSeated (topology_in old) (cut_in old) new
  writes_seated true did =
      let t = topology_in old in
      seated_by t (cut_in old) old new ready.seated plan still.coordinator
      (subst (AreSeats t 0) (sym did.tasks_are) (seats_set t n old.tasks.items did.old did.new ready.seated.tasks did.at did.wrote.same_task))
      (buckets_kept t.buckets old.ackers.items new.ackers.items (same_buckets t n a old new.tasks.items new.ackers.items did (seat_at t n old.tasks.items did.old ready.seated.tasks did.at) (tells did.old did.at) idle low few) ready.seated.ackers)
  writes_seated false same =
      let t = topology_in old in
      seated_by t (cut_in old) old new ready.seated plan still.coordinator (subst (AreSeats t 0) (sym same.0) ready.seated.tasks)
      (subst (AllByRecursion (HasBuckets t.buckets)) (sym same.1) ready.seated.ackers)

  pub writes_come : (wrote : Bool) → WritesAt n a old.tasks.items new.tasks.items old.ackers.items new.ackers.items wrote → WritesTo n old new wrote
  writes_come true did =
      let t = topology_in old in
      let seat = seat_at t n old.tasks.items did.old ready.seated.tasks did.at in
      let next = tells did.old did.at in record {
        acker = a;
        steps = λ custom. shape_is ∙ steps_at_once t n a old new.tasks.items new.ackers.items did seat next idle low few custom;
        none = none_drawn t n a old new.tasks.items new.ackers.items did seat next idle low few;
        none_then = none_then t n a old new.tasks.items new.ackers.items did seat next idle low few;
        same_sources = λ i. same_tasks t n a old new.tasks.items new.ackers.items did seat next idle low few i ++ ids_in (collector_of (still.coordinator i)) ∷ [];
      }
  writes_come false same = (
    shape_is ∙ (λ i. record (shape old) { tasks = map task_side (same.0 i); ackers = map acker_side (same.1 i) }),
    λ i. map source_in (same.0 i) ++ ids_in (collector_of (still.coordinator i)) ∷ [],
  )

  pub writes_ready : (wrote : Bool) → WritesAt n a old.tasks.items new.tasks.items old.ackers.items new.ackers.items wrote → IsReady (topology_in old) (cut_in old) new
  writes_ready true did = wrote-ready old new n (writes_come true did) still there ready (writes_seated true did)
  writes_ready false same =
      let t = topology_in old in
      ready_still t (cut_in old) old new ready still (writes_seated false same) (subst (IsOrderly t) (sym (writes_come false same).0) ready.orderly)

-- what was tried is a task's steps beside an acker's
module _ {I : Type 0} {g : Ghosts I} (tells : I → (ℕ → ℕ) → ℕ → Type 0) (custom : Custom) (n : ℕ) (old new : Engine I g) (still : IsStill old new) where
  goes-same : shape new ≡ shape old → sources new ≡ sources old → Goes tells (topology_in old) custom (cut_in old) [] old new
  goes-same same sources_are = record {
    given = λ s. [];
    draws = λ s before at. (before, ap (λ xs. slice_get xs s) sources_are ∙ at, draws-none tells before);
    none = λ s off. (refl, ap (λ xs. slice_get xs s) sources_are ∙ off);
    more = [];
    added = still.fates ∙ sym (append-nil old.fates);
    runs = λ words counts outcomes gives has. (sym same, λ s. omega arith);
  }

  pub writes-beside : is_over (topology_in old) (cut_in old) (shape old) ≡ false → (wrote : Bool) → WritesTo n old new wrote → GoesBeside tells (topology_in old) custom (cut_in old) 2 n old new
  writes-beside on true did = wrote-beside old new n did still tells custom on
  writes-beside on false same = record { steps = []; only = tt; few = omega arith; goes = goes-same same.0 same.1 }
