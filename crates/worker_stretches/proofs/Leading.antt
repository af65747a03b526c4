-- What led to an engine and to what boxes hold leads on through a stretch.
use Rattle.std.proofs.Common.{◌≡◌, ◌<◌, ◌≤◌, ℕ, zero, suc, ◌+◌, nat_lt, Bool, true, false, List, [], ◌∷◌, ◌++◌, length, map, append-nil, None, Some, get_or, sym, refl, ap, subst, ◌∙◌, arith}
use borrow.Author.Tests.{ltb-false, ltb-true}
use Rattle.std.specs.Prelude.{slice_get}
use Rattle.std.specs.List.{AllByRecursion, range_with_len}
use Rattle.std.specs.List.Sorted.{IsPermutation}
use Rattle.std.proofs.lemmas.List.{length-map}
use Rattle.std.proofs.lemmas.List.Sorted.{IsPermutation-map, IsPermutation-sym}
use Rattle.event_worlds.specs.acker_core.Entries.{AreSilent}
use Rattle.event_worlds.specs.bolt_ops.RowOp.{Custom}
use Rattle.event_worlds.specs.bolt_task.declared.task.BoltTask.{BoltTask}
use Rattle.event_worlds.specs.bolt_task.Executing.{collector_in}
use Rattle.box_rows.specs.declared.mail.Mail.{Mail}
use Rattle.box_rows.specs.FitRows.{held_in}
use Rattle.box_rows.specs.Rows.{taken_in}
use Rattle.event_worlds.specs.commit_order.declared.coordinator.Coordinator.{Coordinator}
use Rattle.event_worlds.specs.commit_order.Orders.{collector_of, cut_of, desk_of, plan_of}
use Rattle.event_worlds.specs.counted_items.Weights.{weigh}
use Rattle.event_worlds.proofs.counted_items.Each.{each-both, each-map, each-to_map, each-weaker}
use Rattle.event_engine.specs.declared.acker.AckerSeat.{AckerSeat}
use Rattle.event_engine.specs.declared.engine.Engine.{Engine}
use Rattle.event_engine.specs.declared.task.TaskSeat.{TaskSeat}
use Rattle.event_engine.specs.Engines.{Gives, IsReady, IsStill, cut_in, has_ended, shape, sources, topology_in}
use Rattle.event_engine.specs.Lending.{IsLent, Lends, Returns}
use Rattle.event_engine.specs.Seats.{AreSeats, HasBuckets, acker_side, source_in, task_side}
use Rattle.event_worlds.specs.Accounted.{LedAt, station_of, weigh_ackers, weigh_tasks}
use Rattle.event_worlds.specs.Beside.{LedBeside, waits}
use Rattle.event_worlds.specs.Orderly.{AreTasksOrderly, IsOrderly}
use Rattle.event_worlds.specs.Worlds.{AckerSide, Known, TaskSide, World, ended, is_over, no_acker, no_task, task_at}
use Rattle.event_worlds.specs.output_collector.Collectors.{given_by, ids_in}
use Rattle.event_worlds.specs.output_collector.Draws.{Draws}
use Rattle.event_worlds.proofs.output_collector.Sending.{Draws-none}
use Rattle.pulse_board.specs.Books.{Tells}
use Rattle.pulse_board.specs.declared.rule.Book.{Book}
use Rattle.event_worlds.specs.storm_ids.declared.ids.Ids.{Ghosts}
use Rattle.stretch_worlds.specs.Stretching.{IsFit, IsInside, LeavesDesk}
use Rattle.task_queues.specs.declared.pass.Pass.{Pass}
use Rattle.event_worlds.specs.topology_plan.Topology.{Topology, tasks_in_all}
use Rattle.event_worlds.specs.topology_plan.Valid.{IsValid}
use Rattle.event_worlds.specs.storm_values.declared.value.Root.{Root}
use Rattle.event_worlds.specs.tree_model.declared.messages.AckMsg.{AckMsg}
use Rattle.event_worlds.specs.tree_model.declared.messages.Parcel.{Parcel}
use Rattle.event_worlds.specs.taken_records.Cuts.{Cut}
use Rattle.event_worlds.specs.tuple_account.Histories.{History, Packet, drawn_in, joined}
use Rattle.event_worlds.specs.tuple_account.Moves.{HasDrawn, Moves, Station, beside}
use Rattle.event_worlds.specs.tuple_account.Parts.{weigh_entries}
use Rattle.event_worlds.specs.tuple_account.Places.{before}
use Rattle.event_worlds.proofs.tuple_account.Moving.{taken-joined}
use Rattle.worker_pool.specs.Ackers.{CountsFew, acker_station, weigh_messages, weigh_verdict}
use Rattle.worker_pool.specs.declared.acker.AckerDesk.{AckerDesk}
use Rattle.worker_pool.specs.declared.desk.TaskDesk.{TaskDesk}
use Rattle.worker_pool.specs.Desks.{given_at, source_at}
use Rattle.worker_stretches.specs.Leads.{Leads, SeatsDid}
use Rattle.worker_stretches.specs.Places.{AreAllSeats, IsAckerAt, IsSilent, IsTaskAt, ZipFrom, desk_number}
use Rattle.world_progress.specs.Lasting.{IsSeat}
use Rattle.box_account.specs.Inboxes.{weigh_acker_inboxes, weigh_task_inboxes}
use Rattle.box_account.proofs.Hearing.{heard_later}
use Rattle.worker_stretches.specs.Standing.{GoesOn, IsInTime, IsLasting, Later, beside_it}
use Rattle.worker_stretches.specs.Teams.{AreNextWords, BoxState, Giving, TakesMore, TeamWorked, Waiting, WereGiven, desks_waiting, is_given, new_desk, old_desk, was_given}
use Rattle.worker_stretches.proofs.Gathering.{task-numbers}
use Rattle.worker_stretches.proofs.Givings.{One, count-few, count-none, count-one, no-spans, none-given, own-words, the-one, words_of}
use Rattle.worker_stretches.proofs.Handing.{not-some, some-is}
use Rattle.worker_stretches.proofs.Keeping.{SeatsFrom, WentThrough, ackers-left, in_time-after, met-routed, no-less-done, saw-few, seats-young, tasks-left, young-seats}
use Rattle.worker_stretches.proofs.Working.{each-permutation}

-- ---- lists

get-map : {X Y : Type 0} (f : X → Y) (xs : List X) (n : ℕ) (x : X) → slice_get xs n ≡ Some x → slice_get (map f xs) n ≡ Some (f x)
get-map f [] n x at = absurd (not-some x at)
get-map f (y ∷ ys) zero x at = ap (λ z. Some (f z)) (some-is y x at)
get-map f (y ∷ ys) (suc n) x at = get-map f ys n x at

get-or : {X Y : Type 0} (f : X → Y) (xs : List X) (n : ℕ) (x : X) (none : Y) → slice_get xs n ≡ Some x → get_or (map f xs) n none ≡ f x
get-or f [] n x none at = absurd (not-some x at)
get-or f (y ∷ ys) zero x none at = ap f (some-is y x at)
get-or f (y ∷ ys) (suc n) x none at = get-or f ys n x none at

get-front : {X : Type 0} (xs ys : List X) (n : ℕ) (x : X) → slice_get xs n ≡ Some x → slice_get (xs ++ ys) n ≡ Some x
get-front [] ys n x at = absurd (not-some x at)
get-front (z ∷ zs) ys zero x at = at
get-front (z ∷ zs) ys (suc n) x at = get-front zs ys n x at

get-past : {X : Type 0} (xs ys zs : List X) (n : ℕ) → length xs ≡ length ys → length xs ≤ n → slice_get (xs ++ zs) n ≡ slice_get (ys ++ zs) n
get-past [] [] zs n long past = refl
get-past [] (y ∷ ys) zs n long past = absurd (omega arith)
get-past (x ∷ xs) [] zs n long past = absurd (omega arith)
get-past (x ∷ xs) (y ∷ ys) zs zero long past = absurd (omega arith)
get-past (x ∷ xs) (y ∷ ys) zs (suc n) long past = get-past xs ys zs n (omega arith) (omega arith)

get-long : {X : Type 0} (xs : List X) (n : ℕ) (x : X) → slice_get xs n ≡ Some x → n < length xs
get-long [] n x at = absurd (not-some x at)
get-long (y ∷ ys) zero x at = omega arith
get-long (y ∷ ys) (suc n) x at = let e = get-long ys n x at in omega arith

-- ---- seats and desks

module _ {I : Type 0} {g : Ghosts I} where
  -- the desk's task has its seat, by its number
  record HasSeat (k : ℕ) (seats : List (TaskSeat I g)) (d : TaskDesk I g) : Type 0 where
    pub place : ℕ
    pub number : d.number ≡ k + place
    pub seat : TaskSeat I g
    pub there : slice_get seats place ≡ Some seat
    pub at : IsTaskAt d.number seat d

  zip-seats : (k : ℕ) (seats : List (TaskSeat I g)) (desks : List (TaskDesk I g)) → ZipFrom IsTaskAt k seats desks → AllByRecursion (HasSeat k seats) desks
  zip-seats k [] [] zip = tt
  zip-seats k [] (d ∷ desks) zip = absurd zip
  zip-seats k (s ∷ seats) [] zip = absurd zip
  zip-seats k (s ∷ seats) (d ∷ desks) zip = (
    record { place = 0; number = zip.0.number ∙ (let e : k ≡ k + 0 = omega arith in e); seat = s; there = refl; at = subst (λ n. IsTaskAt n s d) (sym zip.0.number) zip.0 },
    each-weaker (HasSeat (suc k) seats) (HasSeat k (s ∷ seats)) (λ d has. record { place = suc has.place; number = has.number ∙ (let e : suc k + has.place ≡ k + suc has.place = omega arith in e); seat = has.seat; there = has.there; at = has.at })
        desks (zip-seats (suc k) seats desks zip.1),
  )

  tasks-weigh : (f : Packet → ℕ) (k : ℕ) (seats : List (TaskSeat I g)) (desks : List (TaskDesk I g)) → ZipFrom IsTaskAt k seats desks → weigh_tasks f k (map task_side seats) ≡ desks_waiting f desks
  tasks-weigh f k [] [] zip = refl
  tasks-weigh f k [] (d ∷ desks) zip = absurd zip
  tasks-weigh f k (s ∷ seats) [] zip = absurd zip
  tasks-weigh f k (s ∷ seats) (d ∷ desks) zip =
      let a = zip.0.waiting f in
      let n = ap (λ (m : ℕ). weigh_tasks f m (map task_side seats)) (let e : k + 1 ≡ suc k = omega arith in e) in
      let rest = tasks-weigh f (suc k) seats desks zip.1 in omega arith

ackers-weigh : (f : Packet → ℕ) (k : ℕ) (seats : List AckerSeat) (desks : List AckerDesk) → ZipFrom IsAckerAt k seats desks → weigh_ackers f k (map acker_side seats) ≡ weigh (λ (d : AckerDesk). (acker_station d).waiting f) desks
ackers-weigh f k [] [] zip = refl
ackers-weigh f k [] (d ∷ desks) zip = absurd zip
ackers-weigh f k (s ∷ seats) [] zip = absurd zip
ackers-weigh f k (s ∷ seats) (d ∷ desks) zip =
    let a : weigh_messages f d.number d.inbox.items ≡ weigh_messages f k s.inbox.items = (λ i. weigh_messages f (zip.0.number i) (zip.0.inbox i).items) in
    let b = ap (weigh_verdict f) zip.0.outbox in
    let n = ap (λ (m : ℕ). weigh_ackers f m (map acker_side seats)) (let e : k + 1 ≡ suc k = omega arith in e) in
    let rest = ackers-weigh f (suc k) seats desks zip.1 in omega arith

ackers-keep : (e : Root → AckMsg → ℕ) (k : ℕ) (seats : List AckerSeat) (desks : List AckerDesk) → ZipFrom IsAckerAt k seats desks
    → weigh (λ (side : AckerSide). weigh_entries e side.entries) (map acker_side seats) ≡ weigh (λ (d : AckerDesk). weigh_entries e d.acker.held) desks
ackers-keep e k [] [] zip = refl
ackers-keep e k [] (d ∷ desks) zip = absurd zip
ackers-keep e k (s ∷ seats) [] zip = absurd zip
ackers-keep e k (s ∷ seats) (d ∷ desks) zip =
    let a : weigh_entries e d.acker.held ≡ weigh_entries e s.acker.held = (λ i. weigh_entries e (zip.0.acker i).held) in
    let rest = ackers-keep e (suc k) seats desks zip.1 in omega arith

-- the law of stretches, at a plan, operations and batches
abbrev pub StretchLaw : Topology → Custom → Cut → Type 0
StretchLaw t custom cut =
    (words : ℕ → ℕ → ℕ) (all after : Station) (h more : History) (k new : Known)
    → LedAt t custom cut words all h k → Moves t custom all more after → HasDrawn words more → IsInside more → IsFit t new → LeavesDesk k new → LedAt t custom cut words after (joined h more) new

-- what waits beside an engine before and after, and what was taken, is told by these rows
pub record ReadBy (was is : BoxState) (row row_now : List (Pass Mail)) : Type 0 where
  pub held : (f : Packet → ℕ) → was.waits f ≡ held_in row f
  pub held_now : (f : Packet → ℕ) → is.waits f ≡ held_in row_now f
  pub took : (f : Packet → ℕ) → was.took f ≡ taken_in row f
  pub took_now : (f : Packet → ℕ) → is.took f ≡ taken_in row_now f
  pub more : TakesMore row row_now

-- ---- an engine before and after

module _ {I : Type 0} {g : Ghosts I} (tells : I → (ℕ → ℕ) → ℕ → Type 0) (t : Topology) (custom : Custom) (cut : Cut) where
  -- What is known of an engine whose seats were away for a stretch.
  pub record WereAway (book : Book) (old away new : Engine I g) (tasks left : List (TaskSeat I g)) (ackers others : List AckerSeat) (was is : BoxState) : Type 0 where
    pub lends : Lends tasks ackers old away
    pub first : IsStill old away
    pub returns : Returns left others away new
    pub second : IsStill away new
    pub befores : AreAllSeats t tasks ackers
    pub afters : AreAllSeats t left others
    pub silent : AllByRecursion IsSilent others
    pub orderly : IsOrderly t (shape new)
    pub did : SeatsDid tells t custom book tasks left ackers others was is

  module _ (book : Book) (old away new : Engine I g) (tasks left : List (TaskSeat I g)) (ackers others : List AckerSeat) (was is : BoxState) (all : WereAway book old away new tasks left ackers others was is) where
    abbrev number : Giving I g tells → ℕ
    number x = x.old.number

    abbrev words_in : Giving I g tells → List ℕ
    words_in x = x.ids

    givings : List (Giving I g tells)
    givings = all.did.did.givings

    abbrev given : ℕ → List ℕ
    given s = words_of number words_in s all.did.did.givings

    same_coordinator : new.coordinator ≡ old.coordinator
    same_coordinator = all.second.coordinator ∙ all.first.coordinator

    -- the world after it
    abbrev after_world : World
    after_world = record (shape old) { tasks = map task_side left; ackers = map acker_side others }

    shape-after : shape new ≡ after_world
    shape-after = all.returns.same ∙ ap (λ (w : World). record w { tasks = map task_side left; ackers = map acker_side others }) all.lends.same

    sources-before : sources old ≡ map source_in tasks ++ ids_in (collector_of old.coordinator) ∷ []
    sources-before = ap (λ (ss : List (TaskSeat I g)). map source_in ss ++ ids_in (collector_of old.coordinator) ∷ []) (sym all.lends.tasks)

    sources-after : sources new ≡ map source_in left ++ ids_in (collector_of old.coordinator) ∷ []
    sources-after = (λ i. map source_in (all.returns.tasks i) ++ ids_in (collector_of (same_coordinator i)) ∷ [])

    numbers : IsPermutation (map number all.did.did.givings) (range_with_len 0 (tasks_in_all t))
    numbers =
        subst (λ ns. IsPermutation ns (range_with_len 0 (tasks_in_all t))) (map-number all.did.did.givings)
        (subst (IsPermutation (map desk_number (map old_desk all.did.did.givings))) (task-numbers t tasks all.did.old_desks all.befores.many_tasks all.did.old_at)
        (IsPermutation-map desk_number (map old_desk all.did.did.givings) all.did.old_desks all.did.did.olds))
      where
        map-number : (xs : List (Giving I g tells)) → map desk_number (map old_desk xs) ≡ map number xs
        map-number [] = refl
        map-number (x ∷ xs) = ap (λ ns. x.old.number ∷ ns) (map-number xs)

    abbrev Seated : Giving I g tells → Type 0
    Seated x = HasSeat 0 tasks x.old × HasSeat 0 left x.new

    seated : AllByRecursion Seated all.did.did.givings
    seated =
        each-both (λ (x : Giving I g tells). HasSeat 0 tasks x.old) (λ (x : Giving I g tells). HasSeat 0 left x.new) all.did.did.givings
        (each-map (HasSeat 0 tasks) old_desk all.did.did.givings (each-permutation (HasSeat 0 tasks) all.did.old_desks (map old_desk all.did.did.givings)
        (IsPermutation-sym (map old_desk all.did.did.givings) all.did.old_desks all.did.did.olds) (zip-seats 0 tasks all.did.old_desks all.did.old_at)))
        (each-map (HasSeat 0 left) new_desk all.did.did.givings (each-permutation (HasSeat 0 left) all.did.new_desks (map new_desk all.did.did.givings)
        (IsPermutation-sym (map new_desk all.did.did.givings) all.did.new_desks all.did.did.news) (zip-seats 0 left all.did.new_desks all.did.new_at)))

    -- the seats of a number's task before and after
    record SeatsAt (s : ℕ) : Type 0 where
      pub one : One number words_in Seated s all.did.did.givings
      pub old_there : slice_get tasks s ≡ Some one.holds.0.seat
      pub new_there : slice_get left s ≡ Some one.holds.1.seat

    seats-at : (s : ℕ) → s < tasks_in_all t → SeatsAt s
    seats-at s below =
        let one = the-one number words_in Seated s all.did.did.givings seated (count-one number words_in all.did.did.givings (tasks_in_all t) numbers s below) in record {
          one = one;
          old_there = ap (slice_get tasks) (let e = one.is in let n = one.holds.0.number in let f : s ≡ one.holds.0.place = omega arith in f) ∙ one.holds.0.there;
          new_there = ap (slice_get left) (let e = one.is in let n = one.holds.1.number in let m = one.item.gave.number in let f : s ≡ one.holds.1.place = omega arith in f) ∙ one.holds.1.there;
        }

    long : length (map source_in tasks) ≡ length (map source_in left)
    long = let a = length-map tasks source_in in let b = length-map left source_in in let c = all.befores.many_tasks in let d = all.afters.many_tasks in omega arith

    past : (s : ℕ) → tasks_in_all t ≤ s → slice_get (sources new) s ≡ slice_get (sources old) s
    past s above =
        ap (λ xs. slice_get xs s) sources-after
        ∙ sym (get-past (map source_in tasks) (map source_in left) (ids_in (collector_of old.coordinator) ∷ []) s long (let a = length-map tasks source_in in let c = all.befores.many_tasks in omega arith))
        ∙ ap (λ xs. slice_get xs s) (sym sources-before)

    drawn-at : (s : ℕ) → s < tasks_in_all t → (source : I) → slice_get (sources old) s ≡ Some source → (then : I) × (slice_get (sources new) s ≡ Some then) × Draws tells source (given s) then
    drawn-at s below source at =
        let here = seats-at s below in
        let x = here.one.item in
        let is : slice_get (sources old) s ≡ Some (source_in here.one.holds.0.seat) =
        ap (λ xs. slice_get xs s) sources-before ∙ get-front (map source_in tasks) (ids_in (collector_of old.coordinator) ∷ []) s (source_in here.one.holds.0.seat) (get-map source_in tasks s here.one.holds.0.seat here.old_there) in
        let same : source ≡ source_at x.old = some-is source (source_in here.one.holds.0.seat) (sym at ∙ is) ∙ ap (λ (b : BoltTask I g). ids_in (collector_in b)) (sym here.one.holds.0.at.task) in (
          source_in here.one.holds.1.seat,
          ap (λ xs. slice_get xs s) sources-after ∙ get-front (map source_in left) (ids_in (collector_of old.coordinator) ∷ []) s (source_in here.one.holds.1.seat) (get-map source_in left s here.one.holds.1.seat here.new_there),
          subst (λ (z : I). Draws tells z (given s) (source_in here.one.holds.1.seat)) (sym same)
              (subst (λ ws. Draws tells (source_at x.old) ws (source_in here.one.holds.1.seat)) (sym here.one.words)
              (subst (λ (z : I). Draws tells (source_at x.old) x.ids z) (ap (λ (b : BoltTask I g). ids_in (collector_in b)) here.one.holds.1.at.task) x.gave.draws)),
        )

    drawn : (s : ℕ) (source : I) → slice_get (sources old) s ≡ Some source → (b : Bool) → nat_lt s (tasks_in_all t) ≡ b → (then : I) × (slice_get (sources new) s ≡ Some then) × Draws tells source (given s) then
    drawn s source at true is = drawn-at s (ltb-true s (tasks_in_all t) is) source at
    drawn s source at false is =
        let above = ltb-false s (tasks_in_all t) is in (
          source,
          past s above ∙ at,
          subst (λ ws. Draws tells source ws source) (sym (none-given number words_in all.did.did.givings (tasks_in_all t) numbers s above)) (Draws-none tells source),
        )

    idle : (s : ℕ) → slice_get (sources old) s ≡ None → (b : Bool) → nat_lt s (tasks_in_all t) ≡ b → (given s ≡ []) × (slice_get (sources new) s ≡ None)
    idle s off true is =
        let here = seats-at s (ltb-true s (tasks_in_all t) is) in
        absurd (not-some (source_in here.one.holds.0.seat) (sym off ∙ ap (λ xs. slice_get xs s) sources-before
        ∙ get-front (map source_in tasks) (ids_in (collector_of old.coordinator) ∷ []) s (source_in here.one.holds.0.seat) (get-map source_in tasks s here.one.holds.0.seat here.old_there)))
    idle s off false is =
        let above = ltb-false s (tasks_in_all t) is in (none-given number words_in all.did.did.givings (tasks_in_all t) numbers s above, past s above ∙ off)

    -- by the weights of all that waits beside the engine, before and after
    module _ (law : StretchLaw t custom cut) (words : ℕ → ℕ → ℕ) (counts : ℕ → ℕ) (gives : Gives words counts given) (u v : Waiting) (shift : (f : Packet → ℕ) → u f + is.waits f ≡ v f + was.waits f) (h : History)
        (led : LedBeside t custom cut words u h (record { world = shape old; counts = counts })) where
      abbrev now : ℕ → ℕ
      now s = counts s + length (given s)

      were-given : WereGiven counts all.did.did.givings
      were-given = each-weaker Seated (λ (x : Giving I g tells). given_at x.old ≡ ended (was_given counts x)) each all.did.did.givings seated
        where
          each : (x : Giving I g tells) → Seated x → given_at x.old ≡ ended (was_given counts x)
          each x has =
              let is : x.old.number ≡ has.0.place = let n = has.0.number in omega arith in
              let there : x.old.number < tasks_in_all t = let l = get-long tasks has.0.place has.0.seat has.0.there in let m = all.befores.many_tasks in omega arith in
              let side : task_at t x.old.number (shape old) ≡ task_side has.0.seat =
              ap (λ (ss : List (TaskSeat I g)). get_or (map task_side ss) x.old.number (no_task t)) (sym all.lends.tasks) ∙ get-or task_side tasks x.old.number has.0.seat (no_task t) (ap (slice_get tasks) is ∙ has.0.there) in
              ap (λ (b : BoltTask I g). given_by (collector_in b)) has.0.at.task ∙ ap (λ (z : TaskSide). z.stand.given) (sym side) ∙ led.counted.tasks x.old.number there

      next : AreNextWords words counts all.did.did.givings
      next =
          each-weaker (λ (x : Giving I g tells). words_of number words_in (number x) all.did.did.givings ≡ words_in x)
          (λ (x : Giving I g tells). x.ids ≡ map (words x.old.number) (range_with_len (was_given counts x) (length x.ids)))
          (λ x own. sym (subst (λ ws. map (words x.old.number) (range_with_len (counts x.old.number) (length ws)) ≡ ws) own (gives x.old.number)))
          all.did.did.givings (own-words number words_in all.did.did.givings (count-few number words_in all.did.did.givings (tasks_in_all t) numbers))

      worked : TeamWorked t custom counts all.did.did.givings all.did.old_desks all.did.new_desks all.did.old_places all.did.new_places was is
      worked = all.did.did.worked counts were-given

      draws-at : (s j : ℕ) (b : Bool) → nat_lt s (tasks_in_all t) ≡ b → before (counts s) j + drawn_in s j worked.history ≡ before (now s) j
      draws-at s j true is_below =
          let here = seats-at s (ltb-true s (tasks_in_all t) is_below) in
          let d = worked.moves.draws s j in
          let a = here.one.covers (was_given counts) j in
          let b = here.one.covers (is_given counts) j in
          let e = ap (λ (n : ℕ). before (counts n) j) here.one.is in
          let f : before (is_given counts here.one.item) j ≡ before (now s) j = ap (λ (m : ℕ). before m j) (λ i. counts (here.one.is i) + length (sym here.one.words i)) in omega arith
      draws-at s j false is_past =
          let above = ltb-false s (tasks_in_all t) is_past in
          let d = worked.moves.draws s j in
          let none = count-none number words_in all.did.did.givings (tasks_in_all t) numbers s above in
          let a = no-spans number words_in (was_given counts) s j all.did.did.givings none in
          let b = no-spans number words_in (is_given counts) s j all.did.did.givings none in
          let f : before (counts s) j ≡ before (now s) j =
          ap (λ (m : ℕ). before m j) (let l = ap length (none-given number words_in all.did.did.givings (tasks_in_all t) numbers s above) in let q : counts s ≡ counts s + length (given s) = omega arith in q) in omega arith

      abbrev k_old : Known
      k_old = record { world = shape old; counts = counts }

      abbrev k_new : Known
      k_new = record { world = after_world; counts = now }

      moves : Moves t custom (beside (waits u) (station_of k_old)) worked.history (beside (waits v) (station_of k_new))
      moves = record {
        packets = λ f.
            let p = worked.moves.packets f in
            let s = shift f in
            let a = tasks-weigh f 0 tasks all.did.old_desks all.did.old_at in
            let b = tasks-weigh f 0 left all.did.new_desks all.did.new_at in
            let c = ackers-weigh f 0 ackers all.did.old_places all.did.before_at in
            let d = ackers-weigh f 0 others all.did.new_places all.did.after_at in
            let e = ap (λ (ss : List (TaskSeat I g)). weigh_tasks f 0 (map task_side ss)) all.lends.tasks in
            let k = ap (λ (ss : List AckerSeat). weigh_ackers f 0 (map acker_side ss)) all.lends.ackers in omega arith;
        notes = λ e.
            let n = worked.moves.notes e in
            let c = ackers-keep e 0 ackers all.did.old_places all.did.before_at in
            let d = ackers-keep e 0 others all.did.new_places all.did.after_at in
            let k = ap (λ (ss : List AckerSeat). weigh (λ (side : AckerSide). weigh_entries e side.entries) (map acker_side ss)) all.lends.ackers in omega arith;
        draws = λ s j. let d = draws-at s j (nat_lt s (tasks_in_all t)) refl in omega arith;
        well = worked.moves.well;
      }

      counted-at : (n : ℕ) → n < tasks_in_all t → (task_at t n after_world).stand.given ≡ ended (now n)
      counted-at n below =
          let one = the-one number words_in (λ (x : Giving I g tells). Seated x × (given_at x.new ≡ ended (is_given counts x))) n all.did.did.givings
          (each-both Seated (λ (x : Giving I g tells). given_at x.new ≡ ended (is_given counts x)) all.did.did.givings seated worked.given)
          (count-one number words_in all.did.did.givings (tasks_in_all t) numbers n below) in
          let has = one.holds.0.1 in
          let place : n ≡ has.place = let a = one.is in let b = has.number in let c = one.item.gave.number in omega arith in
          let side : task_at t n after_world ≡ task_side has.seat = get-or task_side left n has.seat (no_task t) (ap (slice_get left) place ∙ has.there) in
          ap (λ (z : TaskSide). z.stand.given) side ∙ ap (λ (b : BoltTask I g). given_by (collector_in b)) (sym has.at.task) ∙ one.holds.1 ∙ (λ i. ended (counts (one.is i) + length (sym one.words i)))

      fit : IsFit t k_new
      fit = record {
        orderly = subst (IsOrderly t) shape-after all.orderly;
        counted = record {
          tasks = counted-at;
          spout = led.counted.spout ∙ ap ended (let l = ap length (none-given number words_in all.did.did.givings (tasks_in_all t) numbers (tasks_in_all t) (omega arith)) in let q : counts (tasks_in_all t) ≡ now (tasks_in_all t) = omega arith in q);
        };
        silent = each-to_map (λ (side : AckerSide). AreSilent side.entries) acker_side others all.silent;
      }

      led-after : LedBeside t custom cut words v (joined h worked.history) k_new
      led-after =
          law words (beside (waits u) (station_of k_old)) (beside (waits v) (station_of k_new)) h worked.history k_old k_new led moves (worked.drawn words next)
          (record { starts = worked.inside.starts; begun = worked.inside.begun; heard = worked.inside.heard }) fit (record { desk = refl; fates = refl; tick = refl; unheard = refl })

      -- what was taken from boxes was used, or stands in inboxes
      through-after : (row row_now : List (Pass Mail)) → ReadBy was is row row_now → WentThrough row h (shape old) → WentThrough row_now (joined h worked.history) after_world
      through-after row row_now told through f =
          let u = worked.uses f in
          let o = through f in
          let j = taken-joined f h worked.history in
          let a = tasks-left f 0 tasks all.did.old_desks all.did.old_at in
          let b = tasks-left f 0 left all.did.new_desks all.did.new_at in
          let c = ackers-left f 0 ackers all.did.old_places all.did.before_at in
          let d = ackers-left f 0 others all.did.new_places all.did.after_at in
          let e = ap (λ (ss : List (TaskSeat I g)). weigh_task_inboxes f 0 (map task_side ss)) all.lends.tasks in
          let k = ap (λ (ss : List AckerSeat). weigh_acker_inboxes f 0 (map acker_side ss)) all.lends.ackers in
          let p = told.took f in
          let q = told.took_now f in omega arith

      -- nothing was lost
      lasting-after : (first : Book) → IsValid t → IsInTime old.tick first → book.drawn ≡ first.drawn → Tells book → old.tick < t.buckets
          → IsLasting t h (shape old) → IsLasting t (joined h worked.history) after_world
      lasting-after first valid in_time drew tells_all short lasting =
          let few = saw-few t old.tick first book valid in_time drew tells_all short in
          let seats : SeatsFrom t old.tick 0 old.ackers.items = (λ n. subst (λ (m : ℕ). IsSeat t m old.tick (get_or (map acker_side old.ackers.items) n no_acker)) (let e : n ≡ 0 + n = omega arith in e) (lasting.seats n)) in
          let was_young = seats-young t old.tick 0 ackers all.did.old_places all.did.before_at (subst (SeatsFrom t old.tick 0) (sym all.lends.ackers) seats) in
          let counted = all.did.did.counted few.0 old.tick few.1 was_young.1 in
          let lasts = worked.lasts (met-routed t custom h worked.history (beside (waits v) (station_of k_new)) led-after.reached) was_young.0
          (each-weaker (λ (d : AckerDesk). d.counted ≤ old.tick) (CountsFew t) (λ d most. omega arith) all.did.new_places counted) in
          let young = young-seats t old.tick 0 others all.did.new_places all.did.after_at lasts.0 counted in record {
            seats = λ n. subst (λ (m : ℕ). IsSeat t m old.tick (get_or (map acker_side others) n no_acker)) (let e : 0 + n ≡ n = omega arith in e) (young n);
            whole = (λ i. lasting.whole i ++ lasts.1 i);
            fine = lasting.fine;
          }

    pub leads-after : StretchLaw t custom cut → Leads tells t custom cut old new was.waits is.waits
    leads-after law = record {
      given = given;
      draws = λ s source at. drawn s source at (nat_lt s (tasks_in_all t)) refl;
      none = λ s off. idle s off (nat_lt s (tasks_in_all t)) refl;
      more = [];
      added = all.second.fates ∙ all.first.fates ∙ sym (append-nil old.fates);
      leads = λ words counts outcomes gives has input fine h led.
          let turn : (f : Packet → ℕ) → was.waits f + is.waits f ≡ is.waits f + was.waits f = (λ f. omega arith) in (
            joined h (worked law words counts gives was.waits is.waits turn h led).history,
            now law words counts gives was.waits is.waits turn h led,
            (λ s. refl),
            subst (λ (w : World). LedBeside t custom cut words is.waits (joined h (worked law words counts gives was.waits is.waits turn h led).history) (record { world = w; counts = now law words counts gives was.waits is.waits turn h led })) (sym shape-after)
                (led-after law words counts gives was.waits is.waits turn h led),
          );
    }

    same_tick : new.tick ≡ old.tick
    same_tick = ap (λ (w : World). w.tick) shape-after

    pub in_time-then : (first : Book) → IsInTime old.tick first → book.drawn ≡ first.drawn → IsInTime new.tick book
    in_time-then first in_time drew = in_time-after old.tick new.tick first book same_tick drew in_time

    abbrev ended_by : Coordinator I → Bool
    ended_by c = is_over (plan_of c) (cut_of c) (record (shape old) { desk = desk_of c })

    pub goes-on-after : (law : StretchLaw t custom cut) (first : Book) (row row_now : List (Pass Mail)) (over : List Parcel) → ReadBy was is row row_now → IsInTime old.tick first → book.drawn ≡ first.drawn → Tells book
        → GoesOn tells t custom cut 0 old new row row_now over over
    goes-on-after law first row row_now over told in_time drew tells_all = record {
      given = given;
      draws = λ s source at. drawn s source at (nat_lt s (tasks_in_all t)) refl;
      none = λ s off. idle s off (nat_lt s (tasks_in_all t)) refl;
      more = [];
      added = all.second.fates ∙ all.first.fates ∙ sym (append-nil old.fates);
      ticks = let e = same_tick in omega arith;
      over = λ ended. ap ended_by same_coordinator ∙ ended;
      on = λ words counts outcomes gives has input customs fine h stands.
          let shift : (f : Packet → ℕ) → beside_it row over f + is.waits f ≡ beside_it row_now over f + was.waits f = (λ f. let a = told.held f in let b = told.held_now f in omega arith) in
          let did = worked law words counts gives (beside_it row over) (beside_it row_now over) shift h stands.led in
          let through = through-after law words counts gives (beside_it row over) (beside_it row_now over) shift h stands.led row row_now told stands.through in
          let later : Later t custom cut words outcomes row_now over 0 given counts h (shape old) after_world (has_ended new ≡ true) = record {
            history = joined h did.history;
            now = now law words counts gives (beside_it row over) (beside_it row_now over) shift h stands.led;
            counted = λ s. refl;
            stands = record {
              led = led-after law words counts gives (beside_it row over) (beside_it row_now over) shift h stands.led;
              through = through;
              heard = heard_later h did.history (shape old).fates stands.heard;
              lasts = λ sure short. lasting-after law words counts gives (beside_it row over) (beside_it row_now over) shift h stands.led first input.valid in_time drew tells_all short (stands.lasts sure short);
            };
            shut = refl;
            rose = λ opens can sure short goes. no-less-done row row_now h did.history (shape old) after_world stands.through through told.more refl;
          } in
          subst (λ (w : World). Later t custom cut words outcomes row_now over 0 given counts h (shape old) w (has_ended new ≡ true)) (sym shape-after) later;
    }

-- ---- an engine whose seats are away, and back

module _ {I : Type 0} {g : Ghosts I} (t : Topology) where
  pub ready-here : (e : Engine I g) → IsReady t (cut_in e) e → IsReady (topology_in e) (cut_in e) e
  ready-here e ready = subst (λ (u : Topology). IsReady u (cut_in e) e) (sym ready.seated.of_topology) ready

  pub seats-lent : (old away : Engine I g) (tasks : List (TaskSeat I g)) (ackers : List AckerSeat) → IsReady t (cut_in old) old → Lends tasks ackers old away → AreAllSeats t tasks ackers
  seats-lent old away tasks ackers ready lends = record {
    many_tasks = let a = ap length lends.tasks in let b = length-map old.tasks.items task_side in let c = ready.orderly.task_count in omega arith;
    many_ackers = let a = ap length lends.ackers in let b = length-map old.ackers.items acker_side in let c = ready.orderly.acker_count in omega arith;
    seats = subst (AreSeats t 0) (sym lends.tasks) ready.seated.tasks;
    orderly = subst (λ (ss : List (TaskSeat I g)). AreTasksOrderly t 0 (map task_side ss)) (sym lends.tasks) ready.orderly.tasks;
    buckets = subst (AllByRecursion (HasBuckets t.buckets)) (sym lends.ackers) ready.seated.ackers;
  }

  pub orderly-after : (old away new : Engine I g) (tasks left : List (TaskSeat I g)) (ackers others : List AckerSeat) → IsReady t (cut_in old) old → Lends tasks ackers old away → Returns left others away new → AreAllSeats t left others
      → IsOrderly t (shape new)
  orderly-after old away new tasks left ackers others ready lends returns are =
      subst (IsOrderly t) (sym (returns.same ∙ ap (λ (w : World). record w { tasks = map task_side left; ackers = map acker_side others }) lends.same)) (record {
        task_count = length-map left task_side ∙ are.many_tasks;
        acker_count = length-map others acker_side ∙ are.many_ackers;
        tasks = are.orderly;
        orders = ready.orderly.orders;
        spout = ready.orderly.spout;
      })

  pub ready-after : (old away new : Engine I g) (left : List (TaskSeat I g)) (others : List AckerSeat) → IsReady t (cut_in old) old → IsLent (topology_in old) (cut_in old) away
      → (IsLent (topology_in away) (cut_in away) away → AreSeats (topology_in away) 0 left → AllByRecursion (HasBuckets (topology_in away).buckets) others → IsOrderly (topology_in away) (shape new) → IsReady (topology_in away) (cut_in away) new)
      → AreAllSeats t left others → IsOrderly t (shape new) → IsReady t (cut_in old) new
  ready-after old away new left others ready lent back are orderly =
      let here = subst (λ (u : Topology). IsLent u (cut_in away) away → AreSeats u 0 left → AllByRecursion (HasBuckets u.buckets) others → IsOrderly u (shape new) → IsReady u (cut_in away) new) (lent.of_topology ∙ ready.seated.of_topology) back in
      let then = subst (λ (k : Cut). IsLent t k away → AreSeats t 0 left → AllByRecursion (HasBuckets t.buckets) others → IsOrderly t (shape new) → IsReady t k new) lent.of_cut here in
      then (subst (λ (u : Topology). IsLent u (cut_in old) away) ready.seated.of_topology lent) are.seats are.buckets orderly

  pub orders-after : (old away new : Engine I g) (tasks left : List (TaskSeat I g)) (ackers others : List AckerSeat) → Lends tasks ackers old away → Returns left others away new → new.orders.items ≡ old.orders.items
  orders-after old away new tasks left ackers others lends returns = ap (λ (w : World). w.orders) returns.same ∙ ap (λ (w : World). w.orders) lends.same
