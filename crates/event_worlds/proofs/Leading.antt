-- What a step of the coordinator's tasks and ackers leaves as it is.
use Rattle.std.proofs.Common.{◌≡◌, ◌<◌, ◌≤◌, ℕ, ◌+◌, ◌-◌, ◌^◌, ◌==◌, nat_lt, Bool, true, false, cond, List, [], ◌∷◌, ◌++◌, length, get_or, set, None, refl, sym, ap, subst, ◌∙◌, eqb-true, eq-eqb, true≢false, arith}
use Rattle.std.specs.List.{AllByRecursion}
use Rattle.std.proofs.lemmas.List.{append-nil, get_or-set_same, get_or-set_other}
use Rattle.commit_order.specs.acker_core.Entries.{AreSilent}
use Rattle.commit_order.specs.bolt_ops.RowOp.{Custom}
use Rattle.commit_order.specs.commit_turns.Account.{desk_of, ends_of}
use Rattle.commit_order.specs.commit_turns.Kept.{IsKept, HaveSpans}
use Rattle.commit_order.specs.counted_items.Weights.{weigh, Within}
use Rattle.commit_order.proofs.counted_items.Weighing.{weigh-append}
use Rattle.event_worlds.specs.Accounted.{IsCounted, LedTo, station_of, BeganWith}
use Rattle.event_worlds.specs.Orderly.{FitsParcel, IsOrderly}
use Rattle.event_worlds.specs.Worlds.{AckerSide, Known, TaskSide, World, acker_at, delivered, drew, ended, gets_message, gets_tuple, no_acker, no_task, task_at, with_task}
use Rattle.event_worlds.proofs.Waiting.{ackers-set, each-at, each-set, tasks-set, weigh-set}
use Rattle.commit_order.specs.topology_plan.Topology.{Topology, tasks_in_all}
use Rattle.commit_order.specs.tree_model.declared.messages.AckMsg.{AckMsg}
use Rattle.commit_order.specs.tree_model.declared.messages.Parcel.{Parcel}
use Rattle.commit_order.specs.tree_model.declared.messages.Parcel.TheVariants.{ToTask, ToAcker}
use Rattle.commit_order.specs.tree_model.declared.messages.Tuple.{Tuple}
use Rattle.commit_order.specs.taken_records.Cuts.{Cut}
use Rattle.commit_order.specs.tuple_account.Drawn.{started}
use Rattle.commit_order.specs.tuple_account.Ends.{Desk, Ended, Waits, verdicts_of_ends, verdicts_of_waits}
use Rattle.commit_order.specs.tuple_account.Fits.{Fits}
use Rattle.commit_order.specs.tuple_account.Histories.{History, Opening, Start, joined, nothing, of_parcel, opens}
use Rattle.commit_order.specs.tuple_account.Moves.{HasDrawn, IsAlike, Moves, Reached, Station, beside, empty}
use Rattle.commit_order.specs.tuple_account.Parts.{holding, weigh_entries}
use Rattle.commit_order.specs.tuple_account.Places.{before, spans}
use Rattle.commit_order.specs.tuple_account.Sound.{is_about}
use Rattle.commit_order.proofs.tuple_account.Moving.{moves-alike, reached-then}
use Rattle.commit_order.proofs.tuple_account.Placing.{span-is}
use Rattle.commit_order.specs.acker_core.declared.verdict.Verdict.{Verdict}

-- ---- histories

pub joined-nothing : (h : History) → joined h nothing ≡ h
joined-nothing h = λ i. record {
  starts = append-nil h.starts i;
  begun = append-nil h.begun i;
  runs = append-nil h.runs i;
  met = append-nil h.met i;
  told = append-nil h.told i;
  dropped = append-nil h.dropped i;
  heard = append-nil h.heard i;
}

-- the start words stay as few where no more are given
pub starts-more : (h more : History) → more.starts ≡ [] → ((s : ℕ) → started s h ≤ 40) → (s : ℕ) → started s (joined h more) ≤ 40
starts-more h more none few s =
    let weight : Start → ℕ = λ x. cond (s == x.source) x.count 0 in
    let e : h.starts ++ more.starts ≡ h.starts = ap (λ (xs : List Start). h.starts ++ xs) none ∙ append-nil h.starts in
    subst (λ (xs : List Start). weigh weight xs ≤ 40) (sym e) (few s)

-- the coordinator's account looks at what was begun and heard alone
pub fits-alike : (t : Topology) (desk : Desk) (fates : List Ended) (h k : History) → h.begun ≡ k.begun → h.heard ≡ k.heard
    → Fits t desk fates h → Fits t desk fates k
fits-alike t desk fates h k b v fits = record {
  begun = λ f. ap (weigh (λ (o : Opening). f o.begun.root)) (sym b) ∙ fits.begun f;
  numbered = λ root. ap (weigh (opens root)) (sym b) ∙ fits.numbered root;
  heard = subst (Within (verdicts_of_ends fates ++ verdicts_of_waits desk.pending)) v fits.heard;
  unheard = subst (λ (vs : List Verdict). AllByRecursion (λ (w : Waits). w.settled ≡ None → weigh (is_about w.root) vs ≡ 0) desk.pending) v fits.unheard;
  ends = fits.ends;
  waits = fits.waits;
  few = fits.few;
  once = fits.once;
}

-- what is reached does not look at which box holds what
pub reached-alike : (t : Topology) (custom : Custom) (h : History) (a b : Station) → IsAlike a b → Reached t custom h a → Reached t custom h b
reached-alike t custom h a b same r = record {
  moves = moves-alike t custom empty a empty b h (record { waiting = λ f. refl; kept = λ g. refl; given = λ s j. refl }) same r.moves;
  once = r.once;
}

-- a move that begins no root
pub reached-more : (t : Topology) (custom : Custom) (h more : History) (a b : Station) → more.begun ≡ [] → Reached t custom h a → Moves t custom a more b → Reached t custom (joined h more) b
reached-more t custom h more a b none r m =
    reached-then t custom a b h more r m
    (λ root. let o = r.once root in let e : weigh (opens root) more.begun ≡ 0 = ap (weigh (opens root)) none in omega arith)

-- ---- words

-- the next words of a source come to those that were given
pub draw-more : (n count : ℕ) (counts : ℕ → ℕ) (s j : ℕ) → before (counts s) j + spans n (counts n) count s j ≡ before (drew n count counts s) j
draw-more n count counts s j = cases (s == n) refl
  where
    cases : (b : Bool) → (s == n) ≡ b → before (counts s) j + cond b (cond (nat_lt j (counts n)) 0 (before (counts n + count) j)) 0 ≡ before (cond b (counts s + count) (counts s)) j
    cases true is =
        let same : s ≡ n = eqb-true s n is in
        let e = span-is (counts n) count j in
        let f : before (counts s) j ≡ before (counts n) j = ap (λ (c : ℕ). before (counts c) j) same in
        let g : before (counts s + count) j ≡ before (counts n + count) j = ap (λ (c : ℕ). before (counts c + count) j) same in omega arith
    cases false is = omega arith

-- ---- stands and counts

module _ (t : Topology) where
  -- a task that changed, and its stand not
  pub given-set : (w : World) (n m : ℕ) (y : TaskSide) → n < length w.tasks → y.stand.given ≡ (task_at t n w).stand.given → (task_at t m (with_task n y w)).stand.given ≡ (task_at t m w).stand.given
  given-set w n m y below same = cases (m == n) refl
    where
      cases : (b : Bool) → (m == n) ≡ b → (get_or (set w.tasks n y) m (no_task t)).stand.given ≡ (get_or w.tasks m (no_task t)).stand.given
      cases true is =
          let e : m ≡ n = eqb-true m n is in
          ap (λ (i : ℕ). (get_or (set w.tasks n y) i (no_task t)).stand.given) e ∙ ap (λ (side : TaskSide). side.stand.given) (get_or-set_same w.tasks n y (no_task t) below)
          ∙ same ∙ ap (λ (i : ℕ). (get_or w.tasks i (no_task t)).stand.given) (sym e)
      cases false is =
          ap (λ (side : TaskSide). side.stand.given) (get_or-set_other w.tasks n m y (no_task t) (λ e. true≢false (sym (eq-eqb m n e) ∙ is)))

  pub counted-set : (w : World) (c : ℕ → ℕ) (n : ℕ) (y : TaskSide) → n < length w.tasks → y.stand.given ≡ (task_at t n w).stand.given
      → IsCounted t (record { world = w; counts = c }) → IsCounted t (record { world = with_task n y w; counts = c })
  counted-set w c n y below same counted = record { tasks = λ m there. given-set w n m y below same ∙ counted.tasks m there; spout = counted.spout }

  -- a parcel is delivered
  pub counted-delivered : (w : World) (c : ℕ → ℕ) (parcel : Parcel) → length w.tasks ≡ tasks_in_all t → FitsParcel t parcel
      → IsCounted t (record { world = w; counts = c }) → IsCounted t (record { world = delivered t parcel w; counts = c })
  counted-delivered w c (ToTask n tuple) size fits counted = let there = fits.0 in counted-set w c n (gets_tuple tuple (task_at t n w)) (omega arith) refl counted
  counted-delivered w c (ToAcker n m) size fits counted = record { tasks = counted.tasks; spout = counted.spout }

  -- the same counts
  pub counted-same : (w : World) (c d : ℕ → ℕ) → ((s : ℕ) → d s ≡ c s) → IsCounted t (record { world = w; counts = c }) → IsCounted t (record { world = w; counts = d })
  counted-same w c d same counted = record {
    tasks = λ m there. counted.tasks m there ∙ ap ended (sym (same m));
    spout = counted.spout ∙ ap ended (sym (same (tasks_in_all t)));
  }

-- ---- hand-overs

-- The history led to a world, while one more parcel is on its way.
pub record LedWith (t : Topology) (custom : Custom) (cut : Cut) (words : ℕ → ℕ → ℕ) (parcel : Parcel) (h : History) (k : Known) : Type 0 where
  pub reached : Reached t custom h (beside (holding (of_parcel parcel ∷ [])) (station_of k))
  pub drawn : HasDrawn words h
  pub starts : (s : ℕ) → started s h ≤ 40
  pub tasks : length k.world.tasks ≡ tasks_in_all t
  pub ackers : length k.world.ackers ≡ t.ackers
  pub counted : IsCounted t k
  pub kept : IsKept t cut k.world.desk k.world.fates
  pub fits : Fits t (desk_of cut k.world.desk) (ends_of k.world.fates) h
  pub spans : HaveSpans (BeganWith cut h.begun) k.world.desk k.world.fates
  pub silent : AllByRecursion (λ (side : AckerSide). AreSilent side.entries) k.world.ackers
  pub ticks : k.world.desk.tick ≤ k.world.tick
  pub unheard : ended (k.world.desk.tick + k.world.unheard) ≤ k.world.tick
  pub last : k.world.tick ≤ 2 ^ 64 - 1

module _ (t : Topology) (custom : Custom) (cut : Cut) (words : ℕ → ℕ → ℕ) where
  station-delivered : (w : World) (c : ℕ → ℕ) (parcel : Parcel) → FitsParcel t parcel → length w.tasks ≡ tasks_in_all t → length w.ackers ≡ t.ackers
      → IsAlike (beside (holding (of_parcel parcel ∷ [])) (station_of (record { world = w; counts = c }))) (station_of (record { world = delivered t parcel w; counts = c }))
  station-delivered w c (ToTask n tuple) fits tasks ackers = record {
    waiting = λ f.
        let there = fits.0 in
        let s = tasks-set f w.tasks n (gets_tuple tuple (task_at t n w)) (no_task t) (omega arith) in
        let a = weigh-append (λ (x : Tuple). f (of_parcel (ToTask n x))) (task_at t n w).inbox (tuple ∷ []) in omega arith;
    kept = λ g. omega arith;
    given = λ s j. omega arith;
  }
  station-delivered w c (ToAcker n m) fits tasks ackers = record {
    waiting = λ f.
        let s = ackers-set f w.ackers n (gets_message m (acker_at n w)) no_acker (omega (arith, fits)) in
        let a = weigh-append (λ (x : AckMsg). f (of_parcel (ToAcker n x))) (acker_at n w).inbox (m ∷ []) in omega arith;
    kept = λ g. let s = weigh-set (λ (side : AckerSide). weigh_entries g side.entries) w.ackers n (gets_message m (acker_at n w)) no_acker (omega (arith, fits)) in omega arith;
    given = λ s j. omega arith;
  }

  -- it comes to its box
  pub led-delivered : (w : World) (c : ℕ → ℕ) (parcel : Parcel) (h : History) → FitsParcel t parcel → IsOrderly t (delivered t parcel w)
      → LedWith t custom cut words parcel h (record { world = w; counts = c }) → LedTo t custom cut words h (record { world = delivered t parcel w; counts = c })
  led-delivered w c (ToTask n tuple) h fits orderly led = record {
    reached = reached-alike t custom h _ _ (station-delivered w c (ToTask n tuple) fits led.tasks led.ackers) led.reached;
    drawn = led.drawn;
    starts = led.starts;
    orderly = orderly;
    counted = counted-delivered t w c (ToTask n tuple) led.tasks fits led.counted;
    kept = led.kept;
    fits = led.fits;
    spans = led.spans;
    silent = led.silent;
    ticks = led.ticks;
    unheard = led.unheard;
    last = led.last;
  }
  led-delivered w c (ToAcker n m) h fits orderly led = record {
    reached = reached-alike t custom h _ _ (station-delivered w c (ToAcker n m) fits led.tasks led.ackers) led.reached;
    drawn = led.drawn;
    starts = led.starts;
    orderly = orderly;
    counted = counted-delivered t w c (ToAcker n m) led.tasks fits led.counted;
    kept = led.kept;
    fits = led.fits;
    spans = led.spans;
    silent = each-set (λ (side : AckerSide). AreSilent side.entries) w.ackers n (gets_message m (acker_at n w)) led.silent (each-at (λ (side : AckerSide). AreSilent side.entries) w.ackers n no_acker led.silent tt);
    ticks = led.ticks;
    unheard = led.unheard;
    last = led.last;
  }
