-- A task's step.
use Rattle.std.proofs.Common.{◌≡◌, ◌<◌, ℕ, ◌+◌, ◌==◌, Bool, true, false, cond, List, [], ◌∷◌, ◌++◌, length, get_or, set, map, refl, sym, ap, subst, ◌∙◌, eqb-true, eq-eqb, true≢false, arith}
use Rattle.std.specs.List.{AllByRecursion, range_with_len}
use Rattle.std.proofs.lemmas.List.{get_or-set_same, append-nil, get_or-set_other, length-set}
use Rattle.std.proofs.lemmas.List.FromFn.{length-map-range_with_len}
use Rattle.commit_order.specs.bolt_ops.RowOp.{Custom, IsCustom}
use Rattle.commit_order.specs.Orders.{Stand}
use Rattle.commit_order.specs.counted_items.Weights.{weigh}
use Rattle.event_worlds.specs.Accounted.{IsCounted, IsInput, LedTo, station_of}
use Rattle.event_worlds.specs.Added.{executes, task_adds, task_adds_past}
use Rattle.event_worlds.specs.Orderly.{FitsParcel, IsForTask, IsOrderly, IsStandOf, IsTaskOrderly}
use Rattle.event_worlds.specs.Worlds.{TaskSide, World, acted_past, drew, ended, executed, execution_by, needed_by, needed_past, next_words, no_task, sent, task_at, task_needs, task_step, tuples_made, with_task}
use Rattle.event_worlds.proofs.Leading.{counted-same, counted-set, draw-more, fits-alike, joined-nothing, led-delivered, reached-alike, reached-more, starts-more}
use Rattle.event_worlds.proofs.Orderly.{executed-well, orderly-task, task-seat}
use Rattle.event_worlds.proofs.Waiting.{drew-none, drew-other, tasks-set}
use Rattle.commit_order.specs.topology_plan.declared.parts.Origin.TheVariants as origin
use Rattle.commit_order.specs.topology_plan.Topology.{Topology, component_of, tasks_in_all}
use Rattle.commit_order.specs.tree_model.declared.messages.AckMsg.{AckMsg}
use Rattle.commit_order.specs.tree_model.declared.messages.AckMsg.TheVariants as msg
use Rattle.commit_order.specs.tree_model.declared.messages.Parcel.{Parcel}
use Rattle.commit_order.specs.tree_model.declared.messages.Parcel.TheVariants.{ToTask}
use Rattle.commit_order.specs.tree_model.declared.messages.Tuple.{Tuple}
use Rattle.commit_order.specs.tree_model.Trees.{write_of}
use Rattle.commit_order.specs.taken_records.Cuts.{Cut}
use Rattle.commit_order.specs.tuple_account.Histories.{Execution, History, execution_parcels, joined, of_parcel, to_acker, to_tasks, weigh_parcels}
use Rattle.commit_order.specs.tuple_account.Moves.{Moves, beside}
use Rattle.commit_order.specs.tuple_account.Parts.{executing, holding}
use Rattle.commit_order.specs.tuple_account.Places.{before, spans}
use Rattle.commit_order.proofs.tuple_account.Moving.{drawn-both}
use Rattle.commit_order.specs.tuple_account.Issued.{Run, children_of, course_of_run, edges_of, node_of, notes_by}
use Rattle.commit_order.specs.tuple_tickets.Trees.{Course, fails, goes, mute}
use Rattle.std.specs.Option.{option_to_list}
use Rattle.event_worlds.proofs.Spans.{spans-alike}

-- ---- places up to 2^64 - 1

shown_notes : (t : Topology) (custom : Custom) (u : Run) (x y : ℕ) → ended x ≡ ended y → (c : Course) → notes_by t custom (record u { at = x }) c ≡ notes_by t custom (record u { at = y }) c
shown_notes t custom u x y e goes =
    ap (λ (first : ℕ). msg.Done (record {
      root = u.tuple.root;
      consumed = u.tuple.edge;
      produced = edges_of (children_of t custom u);
      draw = record { source = u.task; first = first };
      writes = option_to_list (write_of t (node_of u.tuple));
    }) ∷ []) e
shown_notes t custom u x y e fails = refl
shown_notes t custom u x y e mute = refl

-- what is sent tells a place up to 2^64 - 1
shown_parcels : (t : Topology) (custom : Custom) (n : ℕ) (s : Stand) (tuple : Tuple) (ids : List ℕ) (at : ℕ) → s.given ≡ ended at
    → execution_parcels t custom (execution_by t custom n (record s { given = at }) tuple ids) ≡ execution_parcels t custom (execution_by t custom n s tuple ids)
shown_parcels t custom n s tuple ids at is =
    let e : Execution = execution_by t custom n s tuple ids in
    let same : ended at ≡ ended s.given = omega arith in
    ap (λ (notes : List AckMsg). to_tasks (children_of t custom e.run) e.targets ++ map (to_acker t) notes)
    (shown_notes t custom e.run at s.given same (course_of_run t custom e.run))

module _ (t : Topology) (custom : Custom) (cut : Cut) (words : ℕ → ℕ → ℕ) (input : IsInput t cut) (keeps : IsCustom custom) (h : History) (w : World) (c : ℕ → ℕ) (led : LedTo t custom cut words h (record { world = w; counts = c }))
    (n : ℕ) (there : n < tasks_in_all t) where
  abbrev side : TaskSide
  side = task_at t n w

  abbrev need : ℕ
  need = task_needs t custom side

  abbrev ids : List ℕ
  ids = next_words words c n need

  abbrev now : ℕ → ℕ
  now = drew n need c

  below : n < length w.tasks
  below = let size = led.orderly.task_count in omega arith

  enough : length ids ≡ need
  enough = length-map-range_with_len (words n) (c n) need

  seat : IsTaskOrderly t n side
  seat = (task-seat t w led.orderly n there).0

  abbrev after : List Parcel → World
  after out = sent t (acted_past t custom n ids side out).parcel (with_task n (acted_past t custom n ids side out).side w)

  orderly : (out : List Parcel) → side.outbox ≡ out → IsOrderly t (after out)
  orderly out is = subst (λ (xs : List Parcel). IsOrderly t (after xs)) is (orderly-task t cut custom w input keeps n there led.orderly ids enough)

  -- ---- a hand-over

  hands_over : (parcel : Parcel) (rest : List Parcel) → side.outbox ≡ parcel ∷ rest → LedTo t custom cut words h (record { world = after (parcel ∷ rest); counts = now })
  hands_over parcel rest is =
      let y : TaskSide = record side { outbox = rest } in
      let none : need ≡ 0 = ap (needed_past t custom side.inbox) is in
      let fit : FitsParcel t parcel = (subst (AllByRecursion (FitsParcel t)) is seat.outbox).0 in
      let same : (s : ℕ) → now s ≡ c s = (λ s. drew-none c n need s none) in
      led-delivered t custom cut words (with_task n y w) now parcel h fit (orderly (parcel ∷ rest) is) (record {
        reached = reached-alike t custom h (station_of (record { world = w; counts = c })) (beside (holding (of_parcel parcel ∷ [])) (station_of (record { world = with_task n y w; counts = now }))) (record {
          waiting = λ f. let s = tasks-set f w.tasks n y (no_task t) below in let o = ap (weigh_parcels f) is in omega arith;
          kept = λ g. omega arith;
          given = λ s j. let e = ap (λ (k : ℕ). before k j) (same s) in omega arith;
        }) led.reached;
        drawn = led.drawn;
        starts = led.starts;
        tasks = length-set w.tasks n y ∙ led.orderly.task_count;
        ackers = led.orderly.acker_count;
        counted = counted-same t (with_task n y w) c now same (counted-set t w c n y below refl led.counted);
        kept = led.kept;
        fits = led.fits;
        spans = led.spans;
        silent = led.silent;
        ticks = led.ticks;
        unheard = led.unheard;
        last = led.last;
      })

  -- ---- an execution

  idle : side.inbox ≡ [] → side.outbox ≡ [] → IsOrderly t (with_task n side w) → LedTo t custom cut words h (record { world = with_task n side w; counts = now })
  idle in_is out_is fit =
      let none : need ≡ 0 = ap (λ (out : List Parcel). needed_past t custom side.inbox out) out_is ∙ ap (needed_by t custom) in_is in
      let same : (s : ℕ) → now s ≡ c s = (λ s. drew-none c n need s none) in
      record {
        reached = reached-alike t custom h (station_of (record { world = w; counts = c })) (station_of (record { world = with_task n side w; counts = now })) (record {
          waiting = λ f. let s = tasks-set f w.tasks n side (no_task t) below in omega arith;
          kept = λ g. omega arith;
          given = λ s j. let e = ap (λ (k : ℕ). before k j) (same s) in omega arith;
        }) led.reached;
        drawn = led.drawn;
        starts = led.starts;
        orderly = fit;
        counted = counted-same t (with_task n side w) c now same (counted-set t w c n side below refl led.counted);
        kept = led.kept;
        fits = led.fits;
        spans = led.spans;
        silent = led.silent;
        ticks = led.ticks;
        unheard = led.unheard;
        last = led.last;
      }

  module _ (tuple : Tuple) (rest : List Tuple) (in_is : side.inbox ≡ tuple ∷ rest) (out_is : side.outbox ≡ []) where
    abbrev e : Execution
    e = execution_by t custom n (record side.stand { given = c n }) tuple ids

    abbrev y : TaskSide
    y = executed t custom n ids side (tuple ∷ rest)

    place : side.stand.given ≡ ended (c n)
    place = led.counted.tasks n there

    need_is : need ≡ tuples_made t custom tuple
    need_is = ap (λ (out : List Parcel). needed_past t custom side.inbox out) out_is ∙ ap (needed_by t custom) in_is

    stand_is : IsStandOf t (origin.Component (component_of t n)) (record side.stand { given = c n })
    stand_is = let s = seat.stand in record { topology = s.topology; of_source = s.of_source; lanes = s.lanes; sound = s.sound }

    moves : Moves t custom (station_of (record { world = w; counts = c })) (executing e) (station_of (record { world = with_task n y w; counts = now }))
    moves = record {
      packets = λ f.
          let s = tasks-set f w.tasks n y (no_task t) below in
          let p = ap (weigh_parcels f) (shown_parcels t custom n side.stand tuple ids (c n) place) in
          let i = ap (weigh (λ (x : Tuple). f (of_parcel (ToTask n x)))) in_is in
          let o = ap (weigh_parcels f) out_is in omega arith;
      notes = λ g. omega arith;
      draws = λ s j. let d = draw-more n need c s j in let l = ap (λ (k : ℕ). spans n (c n) k s j) enough in omega arith;
      well = record {
        begun = tt;
        runs = (
          executed-well t custom input.valid input.wired n (record side.stand { given = c n }) tuple ids (subst (AllByRecursion (IsForTask t n)) in_is seat.inbox).0 stand_is (enough ∙ need_is),
          tt,
        );
        told = tt;
      };
    }

    counted : IsCounted t (record { world = with_task n y w; counts = now })
    counted = record { tasks = λ m below_all. at m below_all; spout = led.counted.spout ∙ ap ended (sym (drew-other c n need (tasks_in_all t) (λ same. omega arith))) }
      where
        at : (m : ℕ) → m < tasks_in_all t → (task_at t m (with_task n y w)).stand.given ≡ ended (now m)
        at m below_all = cases (m == n) refl
          where
            cases : (b : Bool) → (m == n) ≡ b → (get_or (set w.tasks n y) m (no_task t)).stand.given ≡ ended (cond b (c m + need) (c m))
            cases true is =
                let same : m ≡ n = eqb-true m n is in
                let here : (get_or (set w.tasks n y) n (no_task t)).stand.given ≡ y.stand.given = ap (λ (x : TaskSide). x.stand.given) (get_or-set_same w.tasks n y (no_task t) below) in
                let moved : y.stand.given ≡ ended (c n + need) = (let g = place in let l = enough in omega arith) in
                ap (λ (i : ℕ). (get_or (set w.tasks n y) i (no_task t)).stand.given) same ∙ here ∙ moved ∙ ap (λ (i : ℕ). ended (c i + need)) (sym same)
            cases false is =
                ap (λ (x : TaskSide). x.stand.given) (get_or-set_other w.tasks n m y (no_task t) (λ same. true≢false (sym (eq-eqb m n same) ∙ is)))
                ∙ led.counted.tasks m below_all

    runs : IsOrderly t (with_task n y w) → LedTo t custom cut words (joined h (executing e)) (record { world = with_task n y w; counts = now })
    runs fit = record {
      reached = reached-more t custom h (executing e) _ _ refl led.reached moves;
      drawn = drawn-both words h (executing e) led.drawn (record { of_begun = tt; of_runs = (ap (λ (k : ℕ). map (words n) (range_with_len (c n) k)) (sym enough), tt) });
      starts = starts-more h (executing e) refl led.starts;
      orderly = fit;
      counted = counted;
      kept = led.kept;
      fits = fits-alike t _ _ h (joined h (executing e)) (sym (append-nil h.begun)) (sym (append-nil h.heard)) led.fits;
      spans = spans-alike cut _ _ h.begun (joined h (executing e)).begun (sym (append-nil h.begun)) led.spans;
      silent = led.silent;
      ticks = led.ticks;
      unheard = led.unheard;
      last = led.last;
    }

  executes_front : (inbox : List Tuple) → side.inbox ≡ inbox → side.outbox ≡ [] → IsOrderly t (with_task n (executed t custom n ids side inbox) w)
      → LedTo t custom cut words (joined h (executes t custom n (c n) ids side.stand inbox)) (record { world = with_task n (executed t custom n ids side inbox) w; counts = now })
  executes_front [] in_is out_is fit = subst (λ (k : History). LedTo t custom cut words k (record { world = with_task n side w; counts = now })) (sym (joined-nothing h)) (idle in_is out_is fit)
  executes_front (tuple ∷ rest) in_is out_is fit = runs tuple rest in_is out_is fit

  by_outbox : (out : List Parcel) → side.outbox ≡ out → LedTo t custom cut words (joined h (task_adds_past t custom n (c n) ids side out)) (record { world = after out; counts = now })
  by_outbox (parcel ∷ rest) is = subst (λ (k : History). LedTo t custom cut words k (record { world = after (parcel ∷ rest); counts = now })) (sym (joined-nothing h)) (hands_over parcel rest is)
  by_outbox [] is = executes_front side.inbox refl is (orderly [] is)

  -- a task that is there has its step
  pub led-task : LedTo t custom cut words (joined h (task_adds t custom n (c n) ids side)) (record { world = task_step t custom n ids w; counts = now })
  led-task = by_outbox side.outbox refl
