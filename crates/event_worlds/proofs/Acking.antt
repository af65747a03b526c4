-- An acker's step.
use Rattle.std.proofs.Common.{◌≡◌, ◌<◌, ◌≤◌, ℕ, zero, suc, ◌+◌, ◌-◌, nat_lt, ltb-true, ltb-false, Bool, true, false, List, [], ◌∷◌, ◌++◌, length, set, Option, None, Some, refl, sym, ap, subst, ◌∙◌, arith}
use Rattle.std.specs.List.{AllByRecursion}
use Rattle.std.specs.Option.{option_to_list}
use Rattle.std.proofs.lemmas.List.{append-nil, get_or_past, set_past}
use Rattle.commit_order.specs.acker_core.Entries.{AreSilent, list_with, met, tell, told_of}
use Rattle.commit_order.specs.acker_core.States.{state_of}
use Rattle.commit_order.specs.acker_core.declared.verdict.Verdict.{Verdict}
use Rattle.commit_order.proofs.acker_core.StepLemmas.{list_at, met-gone, met-kept, silent-gone, silent-kept}
use Rattle.commit_order.specs.bolt_ops.RowOp.{Custom}
use Rattle.commit_order.specs.counted_items.Weights.{weigh}
use Rattle.commit_order.proofs.counted_items.Weighing.{weigh-append}
use Rattle.event_worlds.specs.Accounted.{LedTo, station_of}
use Rattle.event_worlds.specs.Added.{acker_adds, acker_adds_past, lost, meets_front}
use Rattle.event_worlds.specs.Orderly.{IsOrderly}
use Rattle.event_worlds.specs.Worlds.{AckerSide, Answered, World, acker_at, acker_step, aged, answered, answered_past, counted_up, meets, no_acker}
use Rattle.event_worlds.proofs.Leading.{fits-alike, joined-nothing, reached-more, starts-more}
use Rattle.event_worlds.proofs.Orderly.{orderly-acker}
use Rattle.event_worlds.proofs.Waiting.{ackers-set, each-at, each-set, weigh-set, weigh_acker}
use Rattle.commit_order.specs.rotating_ledger.Held.{Held, dropped, rotated}
use Rattle.commit_order.specs.rotating_ledger.Told.{told, tells}
use Rattle.commit_order.proofs.rotating_ledger.HeldLemmas.{each-rotated}
use Rattle.commit_order.specs.storm_values.declared.value.Root.{Root}
use Rattle.commit_order.specs.topology_plan.Topology.{Topology}
use Rattle.commit_order.specs.tree_model.Lists.{root_of}
use Rattle.commit_order.specs.tree_model.declared.messages.AckMsg.{AckMsg}
use Rattle.commit_order.specs.tree_model.declared.messages.Parcel.TheVariants.{ToAcker}
use Rattle.commit_order.specs.taken_records.Cuts.{Cut}
use Rattle.commit_order.specs.tuple_account.Histories.{History, Packet, Told, joined, nothing, of_parcel, of_verdict}
use Rattle.commit_order.specs.tuple_account.Moves.{Moves}
use Rattle.commit_order.specs.tuple_account.Parts.{meeting, telling_by, weigh_entries}
use Rattle.commit_order.proofs.tuple_account.Entering.{met-weight, rotated-weight, telling_told}
use Rattle.commit_order.specs.tuple_account.Places.{HasWords}
use Rattle.commit_order.proofs.tuple_account.Moving.{drawn-both}
use Rattle.event_worlds.proofs.Spans.{spans-alike}

-- ---- entries

-- what rotations drop, and what they keep
pub aged-weight : (g : Root → AckMsg → ℕ) (buckets n : ℕ) (es : List (Held (List AckMsg)))
    → weigh_entries g (aged buckets n es) + weigh (λ (x : Root × List AckMsg). weigh (g x.0) x.1) (lost buckets n es) ≡ weigh_entries g es
aged-weight g buckets zero es = omega arith
aged-weight g buckets (suc n) es =
    let rest = aged-weight g buckets n es in
    let r = rotated-weight g buckets (aged buckets n es) in
    let a = weigh-append (λ (x : Root × List AckMsg). weigh (g x.0) x.1) (lost buckets n es) (dropped buckets (aged buckets n es)) in omega arith

aged-none : (buckets n : ℕ) → aged buckets n [] ≡ []
aged-none buckets zero = refl
aged-none buckets (suc n) = ap (rotated buckets) (aged-none buckets n)

lost-none : (buckets n : ℕ) → lost buckets n [] ≡ []
lost-none buckets zero = refl
lost-none buckets (suc n) = λ i. lost-none buckets n i ++ dropped buckets (aged-none buckets n i)

aged-silent : (buckets n : ℕ) (es : List (Held (List AckMsg))) → AreSilent es → AreSilent (aged buckets n es)
aged-silent buckets zero es all = all
aged-silent buckets (suc n) es all = each-rotated (λ (q : Root) (list : List AckMsg). tell q list ≡ None) buckets (aged buckets n es) (aged-silent buckets n es all)

met-silent : (m : AckMsg) (es : List (Held (List AckMsg))) → AreSilent es → AreSilent (met m es)
met-silent m es all = cases (tells (told (state_of (list_at m es (root_of m))))) refl
  where
    cases : (b : Bool) → tells (told (state_of (list_at m es (root_of m)))) ≡ b → AreSilent (met m es)
    cases true is = subst AreSilent (met-gone m es (root_of m) refl is) (silent-gone m es (root_of m) all)
    cases false is = subst AreSilent (met-kept m es (root_of m) refl is) (silent-kept m es (root_of m) all is)

tells-weight : (f : Packet → ℕ) (root : Root) (list : List AckMsg) (o : Option Verdict)
    → weigh (λ (x : Told). f (of_verdict x.verdict)) (telling_by root list o) ≡ weigh (λ (v : Verdict). f (of_verdict v)) (option_to_list o)
tells-weight f root list None = refl
tells-weight f root list (Some verdict) = refl

module _ (t : Topology) (custom : Custom) (cut : Cut) (words : ℕ → ℕ → ℕ) (h : History) (w : World) (c : ℕ → ℕ) (led : LedTo t custom cut words h (record { world = w; counts = c })) (n : ℕ) where
  abbrev side : AckerSide
  side = acker_at n w

  abbrev after : Answered → World
  after a = record w { ackers = set w.ackers n a.side; verdicts = w.verdicts ++ option_to_list a.verdict }

  orderly : (out : List Verdict) → side.outbox ≡ out → IsOrderly t (after (answered_past t.buckets w.tick side out))
  orderly out is = subst (λ (xs : List Verdict). IsOrderly t (after (answered_past t.buckets w.tick side xs))) is (orderly-acker t w led.orderly n)

  here : AreSilent side.entries
  here = each-at (λ (s : AckerSide). AreSilent s.entries) w.ackers n no_acker led.silent tt

  -- a history that begins and hears nothing, and executes nothing
  quiet : (more : History) (a : Answered) → more.starts ≡ [] → more.begun ≡ [] → more.runs ≡ [] → more.heard ≡ [] → AreSilent a.side.entries → IsOrderly t (after a)
      → Moves t custom (station_of (record { world = w; counts = c })) more (station_of (record { world = after a; counts = c }))
      → LedTo t custom cut words (joined h more) (record { world = after a; counts = c })
  quiet more a none none_begun none_run none_heard silent fit moves = record {
    reached = reached-more t custom h more _ _ none_begun led.reached moves;
    drawn = drawn-both words h more led.drawn (record {
      of_begun = subst (AllByRecursion (λ o. HasWords words o.begun.source o.begun.at o.begun.ids)) (sym none_begun) tt;
      of_runs = subst (AllByRecursion (λ e. HasWords words e.run.task e.run.at e.run.ids)) (sym none_run) tt;
    });
    starts = starts-more h more none led.starts;
    orderly = fit;
    counted = record { tasks = led.counted.tasks; spout = led.counted.spout };
    kept = led.kept;
    fits = fits-alike t _ _ h (joined h more) (sym (ap (λ xs. h.begun ++ xs) none_begun ∙ append-nil h.begun)) (sym (ap (λ xs. h.heard ++ xs) none_heard ∙ append-nil h.heard)) led.fits;
    spans = spans-alike cut _ _ h.begun (joined h more).begun (sym (ap (λ xs. h.begun ++ xs) none_begun ∙ append-nil h.begun)) led.spans;
    silent = each-set (λ (s : AckerSide). AreSilent s.entries) w.ackers n a.side led.silent silent;
    ticks = led.ticks;
    unheard = led.unheard;
    last = led.last;
  }

  module _ (below : n < length w.ackers) where
    hands_over : (v : Verdict) (rest : List Verdict) → side.outbox ≡ v ∷ rest → LedTo t custom cut words (joined h nothing) (record { world = after (answered_past t.buckets w.tick side (v ∷ rest)); counts = c })
    hands_over v rest is =
        let y : AckerSide = record side { outbox = rest } in
        quiet nothing (record { side = y; verdict = Some v }) refl refl refl refl here (orderly (v ∷ rest) is) (record {
          packets = λ f.
              let s = ackers-set f w.ackers n y no_acker below in
              let o = ap (weigh (λ (x : Verdict). f (of_verdict x))) is in
              let a = weigh-append (λ (x : Verdict). f (of_verdict x)) w.verdicts (v ∷ []) in omega arith;
          notes = λ g. let s = weigh-set (λ (x : AckerSide). weigh_entries g x.entries) w.ackers n y no_acker below in omega arith;
          draws = λ s j. omega arith;
          well = record { begun = tt; runs = tt; told = tt };
        })

    abbrev old : List (Held (List AckMsg))
    old = aged t.buckets (w.tick - side.counted) side.entries

    abbrev gone : List (Root × List AckMsg)
    gone = lost t.buckets (w.tick - side.counted) side.entries

    old_silent : AreSilent old
    old_silent = aged-silent t.buckets (w.tick - side.counted) side.entries here

    rotates : side.inbox ≡ [] → side.outbox ≡ [] → (y : AckerSide) → y ≡ counted_up t.buckets w.tick side → IsOrderly t (after (record { side = y; verdict = None }))
        → LedTo t custom cut words (joined h (record nothing { dropped = gone })) (record { world = after (record { side = y; verdict = None }); counts = c })
    rotates in_is out_is y is fit =
        quiet (record nothing { dropped = gone }) (record { side = y; verdict = None }) refl refl refl refl (subst (λ (x : AckerSide). AreSilent x.entries) (sym is) old_silent) fit (record {
          packets = λ f.
              let s = ackers-set f w.ackers n y no_acker below in
              let e = ap (weigh_acker f n) is in
              let a = weigh-append (λ (x : Verdict). f (of_verdict x)) w.verdicts [] in omega arith;
          notes = λ g.
              let s = weigh-set (λ (x : AckerSide). weigh_entries g x.entries) w.ackers n y no_acker below in
              let e = ap (λ (x : AckerSide). weigh_entries g x.entries) is in
              let l = aged-weight g t.buckets (w.tick - side.counted) side.entries in omega arith;
          draws = λ s j. omega arith;
          well = record { begun = tt; runs = tt; told = tt };
        })

    meets_message : (m : AckMsg) (rest : List AckMsg) → side.inbox ≡ m ∷ rest → side.outbox ≡ [] → IsOrderly t (after (record { side = meets (counted_up t.buckets w.tick side) (m ∷ rest); verdict = None }))
        → LedTo t custom cut words (joined h (record (meeting n m old) { dropped = gone })) (record { world = after (record { side = meets (counted_up t.buckets w.tick side) (m ∷ rest); verdict = None }); counts = c })
    meets_message m rest in_is out_is fit =
        let y : AckerSide = meets (counted_up t.buckets w.tick side) (m ∷ rest) in
        quiet (record (meeting n m old) { dropped = gone }) (record { side = y; verdict = None }) refl refl refl refl (met-silent m old old_silent) fit (record {
          packets = λ f.
              let s = ackers-set f w.ackers n y no_acker below in
              let i = ap (weigh (λ (x : AckMsg). f (of_parcel (ToAcker n x)))) in_is in
              let o = ap (weigh (λ (x : Verdict). f (of_verdict x))) out_is in
              let u = tells-weight f (root_of m) (list_with m old) (told_of m old) in
              let a = weigh-append (λ (x : Verdict). f (of_verdict x)) w.verdicts [] in omega arith;
          notes = λ g.
              let s = weigh-set (λ (x : AckerSide). weigh_entries g x.entries) w.ackers n y no_acker below in
              let l = aged-weight g t.buckets (w.tick - side.counted) side.entries in
              let k = met-weight g m old in omega arith;
          draws = λ s j. omega arith;
          well = record { begun = tt; runs = tt; told = telling_told m old };
        })

    by_inbox : (inbox : List AckMsg) → side.inbox ≡ inbox → side.outbox ≡ [] → IsOrderly t (after (record { side = meets (counted_up t.buckets w.tick side) inbox; verdict = None }))
        → LedTo t custom cut words (joined h (record (meets_front n inbox old) { dropped = gone })) (record { world = after (record { side = meets (counted_up t.buckets w.tick side) inbox; verdict = None }); counts = c })
    by_inbox [] in_is out_is fit = rotates in_is out_is (counted_up t.buckets w.tick side) refl fit
    by_inbox (m ∷ rest) in_is out_is fit = meets_message m rest in_is out_is fit

    by_outbox : (out : List Verdict) → side.outbox ≡ out → LedTo t custom cut words (joined h (acker_adds_past n t.buckets w.tick side out)) (record { world = after (answered_past t.buckets w.tick side out); counts = c })
    by_outbox (v ∷ rest) is = hands_over v rest is
    by_outbox [] is = by_inbox side.inbox refl is (orderly [] is)

    led-acker_there : LedTo t custom cut words (joined h (acker_adds n t.buckets w.tick side)) (record { world = acker_step t n w; counts = c })
    led-acker_there = by_outbox side.outbox refl

  -- no acker beyond has a step
  module _ (beyond : length w.ackers ≤ n) where
    nobody : side ≡ no_acker
    nobody = get_or_past w.ackers n no_acker beyond

    still : acker_step t n w ≡ w
    still =
        ap (λ (x : AckerSide). after (answered t.buckets w.tick x)) nobody
        ∙ (λ i. record w { ackers = set_past w.ackers n (counted_up t.buckets w.tick no_acker) beyond i; verdicts = append-nil w.verdicts i })

    adds_nothing : acker_adds n t.buckets w.tick side ≡ nothing
    adds_nothing = ap (acker_adds n t.buckets w.tick) nobody ∙ ap (λ (gone : List (Root × List AckMsg)). record nothing { dropped = gone }) (lost-none t.buckets (w.tick - 0))

    led-acker_beyond : LedTo t custom cut words (joined h (acker_adds n t.buckets w.tick side)) (record { world = acker_step t n w; counts = c })
    led-acker_beyond =
        subst (λ (x : World). LedTo t custom cut words (joined h (acker_adds n t.buckets w.tick side)) (record { world = x; counts = c })) (sym still)
        (subst (λ (k : History). LedTo t custom cut words k (record { world = w; counts = c })) (sym (ap (joined h) adds_nothing ∙ joined-nothing h)) led)

  -- an acker has its step
  pub led-acker : LedTo t custom cut words (joined h (acker_adds n t.buckets w.tick side)) (record { world = acker_step t n w; counts = c })
  led-acker = cases (nat_lt n (length w.ackers)) refl
    where
      cases : (b : Bool) → nat_lt n (length w.ackers) ≡ b → LedTo t custom cut words (joined h (acker_adds n t.buckets w.tick side)) (record { world = acker_step t n w; counts = c })
      cases true is = led-acker_there (ltb-true n (length w.ackers) is)
      cases false is = led-acker_beyond (ltb-false n (length w.ackers) is)
