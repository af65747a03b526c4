-- The coordinator's steps, and a tick.
use Rattle.std.proofs.Common.{◌≡◌, ◌≤◌, ℕ, ◌+◌, Bool, true, false, cond, List, [], ◌∷◌, ◌++◌, length, map, sum, slice_get, drop, Option, refl, sym, ap, subst, ◌∙◌, arith}
use Rattle.std.specs.List.{AllByRecursion, range_with_len}
use Rattle.std.specs.Option.{option_to_list}
use Rattle.std.proofs.lemmas.List.{append-nil}
use Rattle.std.proofs.lemmas.List.FromFn.{length-map-range_with_len}
use Rattle.commit_order.specs.acker_core.declared.verdict.Verdict.{Verdict}
use Rattle.commit_order.specs.attempt_fates.declared.fates.Attempt.{Attempt}
use Rattle.commit_order.specs.bolt_ops.RowOp.{Custom}
use Rattle.commit_order.specs.Orders.{Stand, ids_drawn}
use Rattle.commit_order.specs.commit_turns.Account.{desk_of, ends_of}
use Rattle.commit_order.specs.commit_turns.Desks.{Progress, Desk}
use Rattle.commit_order.specs.commit_turns.Kept.{IsKept, HaveSpans}
use Rattle.commit_order.specs.commit_turns.Outcomes.{Begin, hears}
use Rattle.commit_order.specs.commit_turns.Turns.{Turned, decided}
use Rattle.commit_order.specs.counted_items.Weights.{weigh}
use Rattle.commit_order.proofs.counted_items.Each.{each-weaker, each-back}
use Rattle.commit_order.proofs.counted_items.Weighing.{weigh-flat_map}
use Rattle.event_worlds.specs.Accounted.{IsCounted, IsInput, LedAt, LedTo, station_of, BeganWith}
use Rattle.event_worlds.specs.Added.{placed, turn_adds, turn_adds_past}
use Rattle.event_worlds.specs.Orderly.{FitsParcel, IsOrderly}
use Rattle.event_worlds.specs.Worlds.{World, drew, ended, first_needs, next_words, opened, outcome_step, stand_past, tick_step, turn_needs, turn_needs_past, turn_past, turn_step, turned_in, with_progress, with_turn}
use Rattle.event_worlds.proofs.Leading.{counted-same, draw-more, joined-nothing, led-delivered, reached-alike, starts-more}
use Rattle.event_worlds.proofs.Orderly.{AreOpened, opened-fits, orderly-outcome, orderly-shut, orderly-tick, orderly-turn}
use Rattle.event_worlds.proofs.Placing.{AreOf, given-past, placed-parcels, placed-roots, placed-spans, placed-well, placed-words}
use Rattle.event_worlds.proofs.Waiting.{drew-here, drew-none, drew-other, weigh-front}
use Rattle.commit_order.specs.state_parts.declared.answer.CommitOutcome.{CommitOutcome}
use Rattle.commit_order.specs.storm_values.declared.value.Root.{Root}
use Rattle.commit_order.specs.topology_plan.Topology.{Topology, tasks_in_all}
use Rattle.commit_order.specs.tree_model.declared.messages.Parcel.{Parcel}
use Rattle.commit_order.specs.taken_records.Cuts.{Cut}
use Rattle.commit_order.specs.tuple_account.Fits.{Fits}
use Rattle.commit_order.specs.tuple_account.Histories.{History, IsOpening, Opening, joined, of_parcel, of_verdict, opening_parcels, opens, weigh_parcels, rows_in}
use Rattle.commit_order.specs.tuple_account.Moves.{Moves, Station, beside, Reached}
use Rattle.commit_order.specs.tuple_account.Parts.{holding}
use Rattle.commit_order.specs.tuple_account.Places.{HasWords, before, spans}
use Rattle.commit_order.specs.tuple_account.Sound.{is_about}
use Rattle.commit_order.proofs.tuple_account.Moving.{drawn-both, reached-then}
use Rattle.commit_order.proofs.tuple_account.Placing.{spans-more}
use Rattle.commit_order.proofs.tuple_account.Telling.{heard_begun}
use Rattle.event_worlds.proofs.Spans.{opened-all, later-begins}
use Rattle.commit_order.specs.commit_turns.declared.wait.Wait.{Wait}
use Rattle.commit_order.specs.record_spans.declared.span.Span.{Span}
use Rattle.commit_order.proofs.commit_turns.Carrying.{carries_decided}
use Rattle.commit_order.proofs.tuple_account.Reading.{rows_are_found}

-- What the coordinator's laws say of a turn that heard this and came to this.
pub record TurnsWell (t : Topology) (cut : Cut) (h : History) (fates : List Attempt) (tick : ℕ) (d : Desk) (verdict : Option Verdict) (to : Turned t cut) : Type 1 where
  pub kept : IsKept t cut to.desk (fates ++ to.ended)
  pub fits : (openings : List Opening) → Begin openings to.begun
      → ((root : Root) → weigh (is_about root) (h.heard ++ option_to_list verdict) ≤ weigh (opens root) h.begun)
      → Fits t (desk_of cut to.desk) (ends_of (fates ++ to.ended)) (joined h (hears verdict openings))
  pub roots : (openings : List Opening) → Begin openings to.begun → (root : Root) → weigh (opens root) h.begun + weigh (opens root) openings ≤ 1
  pub spans : (R : Root → List Span → Type 0) → HaveSpans R d fates → AllByRecursion (λ (w : Wait). R w.root w.spans) to.begun → HaveSpans R to.desk (fates ++ to.ended)
  pub ticks : to.desk.tick ≤ tick

-- what moves a world moves it with what waits beside it
abbrev pub MovesOn : Topology → Custom → (Station → Station) → Type 0
MovesOn t custom on = (a b : Station) (more : History) → Moves t custom a more b → Moves t custom (on a) more (on b)

module _ (t : Topology) (custom : Custom) (cut : Cut) (words : ℕ → ℕ → ℕ) (input : IsInput t cut) (h : History) (w : World) (c : ℕ → ℕ) (on : Station → Station) (onward : MovesOn t custom on)
    (led : LedAt t custom cut words (on (station_of (record { world = w; counts = c }))) h (record { world = w; counts = c })) where
  -- ---- a turn

  abbrev n : ℕ
  n = tasks_in_all t

  abbrev verdict : Option Verdict
  verdict = slice_get w.verdicts 0

  -- no more was heard of a root than it was begun, with the front verdict too
  quiet : (root : Root) → weigh (is_about root) (h.heard ++ option_to_list verdict) ≤ weigh (opens root) h.begun
  quiet root =
      let moves : Moves t custom (station_of (record { world = w; counts = c })) (hears verdict []) (station_of (record { world = record w { verdicts = drop 1 w.verdicts }; counts = c })) = record {
        packets = λ f. let v = weigh-front (λ (x : Verdict). f (of_verdict x)) w.verdicts in omega arith;
        notes = λ g. omega arith;
        draws = λ s j. omega arith;
        well = record { begun = tt; runs = tt; told = tt };
      } in
      let reached = reached-then t custom _ _ h (hears verdict []) led.reached (onward _ _ (hears verdict []) moves) (λ r. let o = led.reached.once r in omega arith) in
      subst (λ (begun : List Opening). weigh (is_about root) (h.heard ++ option_to_list verdict) ≤ weigh (opens root) begun) (append-nil h.begun)
      (heard_begun t custom (joined h (hears verdict [])) _ reached root)

  module _ (to : Turned t cut) (turns : TurnsWell t cut h w.fates w.tick w.desk verdict to) (need : ℕ) (needed : need ≡ sum (map (first_needs t cut) to.begun)) (none : w.orders ≡ []) where
    abbrev ids : List ℕ
    ids = next_words words c n need

    abbrev now : ℕ → ℕ
    now = drew n need c

    enough : length ids ≡ need
    enough = length-map-range_with_len (words n) (c n) need

    abbrev shown : List Opening
    shown = opened t cut w.spout to.begun ids

    abbrev begun : List Opening
    begun = placed (c n) shown

    abbrev end : Stand
    end = stand_past t cut shown w.spout

    are : AreOpened t cut w.spout to.begun ids shown end
    are = opened-fits t cut input w.spout to.begun ids led.orderly.spout (enough ∙ needed)

    of_source : AreOf n shown
    of_source = each-weaker (IsOpening t) (λ (o : Opening). o.begun.source ≡ n) (λ o is. is.source) shown are.well

    drawn : length (ids_drawn shown) ≡ need
    drawn = ap length are.drawn ∙ enough

    begins : Begin begun to.begun
    begins = placed-roots (c n) shown ∙ are.begun

    moves : Moves t custom (station_of (record { world = w; counts = c })) (hears verdict begun) (station_of (record { world = with_turn t cut ids to w; counts = now }))
    moves = record {
      packets = λ f.
          let v = weigh-front (λ (x : Verdict). f (of_verdict x)) w.verdicts in
          let o = ap (weigh_parcels f) none in
          let e = weigh-flat_map (λ (p : Parcel). f (of_parcel p)) (opening_parcels t) begun in
          let p = ap (weigh_parcels f) (placed-parcels t cut n (c n) w.spout end to.begun shown led.counted.spout are.opened) in omega arith;
      notes = λ g. omega arith;
      draws = λ s j.
          let a = placed-spans n (c n) s j shown of_source in
          let l = ap (λ (k : ℕ). spans n 0 (c n + k) s j) drawn in
          let m = spans-more n (c n) need s j in
          let d = draw-more n need c s j in omega arith;
      well = record { begun = placed-well t (c n) shown are.well; runs = tt; told = tt };
    }

    has_words : HasWords words n (c n) (ids_drawn shown)
    has_words =
        subst (λ (xs : List ℕ). xs ≡ map (words n) (range_with_len (c n) (length xs))) (sym are.drawn)
        (ap (λ (k : ℕ). map (words n) (range_with_len (c n) k)) (sym enough))

    counted : IsCounted t (record { world = with_turn t cut ids to w; counts = now })
    counted = record {
      tasks = λ m there. led.counted.tasks m there ∙ ap ended (sym (drew-other c n need m (λ same. omega arith)));
      spout = given-past t cut n (c n) w.spout end to.begun shown led.counted.spout are.opened ∙ ap (λ (k : ℕ). ended (c n + k)) drawn ∙ ap ended (sym (drew-here c n need));
    }

    reached : Reached t custom (joined h (hears verdict begun)) (on (station_of (record { world = with_turn t cut ids to w; counts = now })))
    reached = reached-then t custom _ _ h (hears verdict begun) led.reached (onward _ _ (hears verdict begun) moves) (turns.roots begun begins)

    -- each attempt that begins has the rows of its opening
    new_spans : AllByRecursion (λ (v : Wait). BeganWith cut (h.begun ++ begun) v.root v.spans) to.begun
    new_spans =
        opened-all cut n (c n) (λ root rows. rows ≡ rows_in (h.begun ++ begun) root) w.spout end to.begun shown are.opened
        (each-back (λ (o : Opening). o.begun.rows ≡ rows_in (h.begun ++ begun) o.begun.root) h.begun begun (rows_are_found t custom (joined h (hears verdict begun)) _ reached))

    pub turned_to : IsOrderly t (with_turn t cut ids to w) → LedAt t custom cut words (on (station_of (record { world = with_turn t cut ids to w; counts = now }))) (joined h (hears verdict begun)) (record { world = with_turn t cut ids to w; counts = now })
    turned_to fit = record {
      reached = reached;
      drawn = drawn-both words h (hears verdict begun) led.drawn (record { of_begun = placed-words words n (c n) shown of_source has_words; of_runs = tt });
      starts = starts-more h (hears verdict begun) refl led.starts;
      orderly = fit;
      counted = counted;
      kept = turns.kept;
      fits = turns.fits begun begins quiet;
      spans = turns.spans (BeganWith cut (h.begun ++ begun)) (later-begins t cut w.desk w.fates h led.fits begun led.spans) new_spans;
      silent = led.silent;
      ticks = turns.ticks;
      unheard = let e = turns.ticks in omega arith;
      last = led.last;
    }

  abbrev need_all : ℕ
  need_all = turn_needs t cut w

  abbrev ids_all : List ℕ
  ids_all = next_words words c n need_all

  orderly : (orders : List Parcel) → w.orders ≡ orders → IsOrderly t (turn_past t cut ids_all w orders)
  orderly orders is = subst (λ (xs : List Parcel). IsOrderly t (turn_past t cut ids_all w xs)) is (orderly-turn t cut w input led.orderly ids_all (length-map-range_with_len (words n) (c n) need_all))

  -- the coordinator has its step, with nothing left to hand over
  pub led-turn-none : w.orders ≡ [] → TurnsWell t cut h w.fates w.tick w.desk verdict (turned_in t cut w)
      → LedAt t custom cut words (on (station_of (record { world = turn_step t cut ids_all w; counts = drew n need_all c }))) (joined h (turn_adds t cut (c n) ids_all w)) (record { world = turn_step t cut ids_all w; counts = drew n need_all c })
  led-turn-none none turns =
      subst (λ (out : List Parcel). LedAt t custom cut words (on (station_of (record { world = turn_past t cut ids_all w out; counts = drew n need_all c }))) (joined h (turn_adds_past t cut (c n) ids_all w out)) (record { world = turn_past t cut ids_all w out; counts = drew n need_all c }))
      (sym none) (turned_to (turned_in t cut w) turns need_all (ap (turn_needs_past t cut w) none) none (orderly [] none))

  -- ---- an outcome

  -- an attempt's commit came to this
  progressed : (p : Progress) → IsKept t cut p.desk (w.fates ++ p.ended) → Fits t (desk_of cut p.desk) (ends_of (w.fates ++ p.ended)) h
      → HaveSpans (BeganWith cut h.begun) p.desk (w.fates ++ p.ended) → p.desk.tick ≡ w.desk.tick → IsOrderly t (with_progress t cut p w)
      → LedAt t custom cut words (on (station_of (record { world = with_progress t cut p w; counts = c }))) h (record { world = with_progress t cut p w; counts = c })
  progressed p kept fits spans tick fit = record {
    reached = led.reached;
    drawn = led.drawn;
    starts = led.starts;
    orderly = fit;
    counted = record { tasks = led.counted.tasks; spout = led.counted.spout };
    kept = kept;
    fits = fits;
    spans = spans;
    silent = led.silent;
    ticks = let e = led.ticks in omega arith;
    unheard = let e = led.unheard in omega arith;
    last = led.last;
  }

  pub led-outcome : (how : CommitOutcome) → IsKept t cut (decided t cut how w.desk).desk (w.fates ++ (decided t cut how w.desk).ended)
      → Fits t (desk_of cut (decided t cut how w.desk).desk) (ends_of (w.fates ++ (decided t cut how w.desk).ended)) h
      → (decided t cut how w.desk).desk.tick ≡ w.desk.tick
      → LedAt t custom cut words (on (station_of (record { world = outcome_step t cut how w; counts = c }))) h (record { world = outcome_step t cut how w; counts = c })
  led-outcome how kept fits tick = cases w.desk.out refl
    where
      cases : (b : Bool) → w.desk.out ≡ b → LedAt t custom cut words (on (station_of (record { world = cond b (with_progress t cut (decided t cut how w.desk) w) w; counts = c }))) h (record { world = cond b (with_progress t cut (decided t cut how w.desk) w) w; counts = c })
      cases true is = progressed (decided t cut how w.desk) kept fits (carries_decided (BeganWith cut h.begun) t cut w.desk w.fates led.spans how) tick (subst (λ (b : Bool). IsOrderly t (cond b (with_progress t cut (decided t cut how w.desk) w) w)) is (orderly-outcome t cut w led.orderly how))
      cases false is = led

  -- ---- a tick

  pub led-tick : LedAt t custom cut words (on (station_of (record { world = tick_step w; counts = c }))) h (record { world = tick_step w; counts = c })
  led-tick = record {
    reached = led.reached;
    drawn = led.drawn;
    starts = led.starts;
    orderly = orderly-tick t w led.orderly;
    counted = record { tasks = led.counted.tasks; spout = led.counted.spout };
    kept = led.kept;
    fits = led.fits;
    spans = led.spans;
    silent = led.silent;
    ticks = let e = led.ticks in let l = led.last in omega arith;
    unheard = let e = led.unheard in let l = led.last in omega arith;
    last = omega arith;
  }

  -- ---- partitions

  -- other partitions are shut
  pub led-shut : (shut : ℕ) → LedAt t custom cut words (on (station_of (record { world = record w { shut = shut }; counts = c }))) h
      (record { world = record w { shut = shut }; counts = c })
  led-shut shut = record {
    reached = led.reached;
    drawn = led.drawn;
    starts = led.starts;
    orderly = orderly-shut t w shut led.orderly;
    counted = record { tasks = led.counted.tasks; spout = led.counted.spout };
    kept = led.kept;
    fits = led.fits;
    spans = led.spans;
    silent = led.silent;
    ticks = led.ticks;
    unheard = led.unheard;
    last = led.last;
  }

-- ---- a turn of a world with nothing beside it

module _ (t : Topology) (custom : Custom) (cut : Cut) (words : ℕ → ℕ → ℕ) (input : IsInput t cut) (h : History) (w : World) (c : ℕ → ℕ) (led : LedTo t custom cut words h (record { world = w; counts = c })) where
  abbrev m : ℕ
  m = tasks_in_all t

  abbrev needs : ℕ
  needs = turn_needs t cut w

  abbrev drawn_ids : List ℕ
  drawn_ids = next_words words c m needs

  orderly_by : (orders : List Parcel) → w.orders ≡ orders → IsOrderly t (turn_past t cut drawn_ids w orders)
  orderly_by orders is = orderly t custom cut words input h w c (λ s. s) (λ a b more x. x) led orders is

  hands_over : (parcel : Parcel) (rest : List Parcel) → w.orders ≡ parcel ∷ rest → LedTo t custom cut words h (record { world = turn_past t cut drawn_ids w (parcel ∷ rest); counts = drew m needs c })
  hands_over parcel rest is =
      let none : needs ≡ 0 = ap (turn_needs_past t cut w) is in
      let fit : FitsParcel t parcel = (subst (AllByRecursion (FitsParcel t)) is led.orderly.orders).0 in
      let same : (s : ℕ) → drew m needs c s ≡ c s = (λ s. drew-none c m needs s none) in
      led-delivered t custom cut words (record w { orders = rest }) (drew m needs c) parcel h fit (orderly_by (parcel ∷ rest) is) (record {
        reached = reached-alike t custom h (station_of (record { world = w; counts = c })) (beside (holding (of_parcel parcel ∷ [])) (station_of (record { world = record w { orders = rest }; counts = drew m needs c }))) (record {
          waiting = λ f. let o = ap (weigh_parcels f) is in omega arith;
          kept = λ g. omega arith;
          given = λ s j. let e = ap (λ (k : ℕ). before k j) (same s) in omega arith;
        }) led.reached;
        drawn = led.drawn;
        starts = led.starts;
        tasks = led.orderly.task_count;
        ackers = led.orderly.acker_count;
        counted = counted-same t (record w { orders = rest }) c (drew m needs c) same (record { tasks = led.counted.tasks; spout = led.counted.spout });
        kept = led.kept;
        fits = led.fits;
        spans = led.spans;
        silent = led.silent;
        ticks = led.ticks;
        unheard = led.unheard;
        last = led.last;
      })

  by_orders : (orders : List Parcel) → w.orders ≡ orders → TurnsWell t cut h w.fates w.tick w.desk (slice_get w.verdicts 0) (turned_in t cut w)
      → LedTo t custom cut words (joined h (turn_adds_past t cut (c m) drawn_ids w orders)) (record { world = turn_past t cut drawn_ids w orders; counts = drew m needs c })
  by_orders (parcel ∷ rest) is turns =
      subst (λ (k : History). LedTo t custom cut words k (record { world = turn_past t cut drawn_ids w (parcel ∷ rest); counts = drew m needs c })) (sym (joined-nothing h)) (hands_over parcel rest is)
  by_orders [] is turns = turned_to t custom cut words input h w c (λ s. s) (λ a b more m. m) led (turned_in t cut w) turns needs (ap (turn_needs_past t cut w) is) is (orderly_by [] is)

  -- the coordinator has its step
  pub led-turn : TurnsWell t cut h w.fates w.tick w.desk (slice_get w.verdicts 0) (turned_in t cut w) → LedTo t custom cut words (joined h (turn_adds t cut (c m) drawn_ids w)) (record { world = turn_step t cut drawn_ids w; counts = drew m needs c })
  led-turn turns = by_orders w.orders refl turns
