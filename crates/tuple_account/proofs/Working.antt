-- What the functions of a worker say adds up to its share of a stretch.
use Rattle.std.proofs.Common.{◌≡◌, ◌<◌, ◌≤◌, ℕ, zero, suc, ◌+◌, ◌==◌, Bool, true, false, cond, true≢false, eqb-true, eq-eqb, [], ◌∷◌, sym, refl, ap, ◌∙◌, arith}
use Rattle.tree_model.specs.bolt_ops.RowOp.{Custom}
use Rattle.tree_model.specs.storm_values.declared.value.Root.{Root}
use Rattle.tree_model.specs.topology_plan.Topology.{Topology}
use Rattle.tree_model.specs.declared.messages.AckMsg.{AckMsg}
use Rattle.tuple_account.specs.Benches.{Bench, Works, IsFresh, OneMore, share_of}
use Rattle.tuple_account.specs.Histories.{Packet, History, nothing, joined, taken}
use Rattle.tuple_account.specs.Moves.{Station, beside, Moves}
use Rattle.tuple_account.specs.Parts.{holding}
use Rattle.tuple_account.specs.Stretches.{sum_below, Books, DoesShare, Gathered}
use Rattle.tuple_account.proofs.Moving.{moves-then, issued-joined, taken-joined, well-nothing}
use Rattle.tuple_account.proofs.Placing.{sum-add, sum-same, sum-zero}

sum-none : (i c n : ℕ) → n ≤ i → sum_below (λ k. cond (k == i) c 0) n ≡ 0
sum-none i c zero above = refl
sum-none i c (suc n) above = let rest = sum-none i c n (omega arith) in let here = at (n == i) refl in omega arith
  where
    at : (b : Bool) → (n == i) ≡ b → cond b c 0 ≡ 0
    at true is = let same = eqb-true n i is in absurd (omega arith)
    at false is = refl

sum-at : (i c n : ℕ) → i < n → sum_below (λ k. cond (k == i) c 0) n ≡ c
sum-at i c zero below = absurd (omega arith)
sum-at i c (suc n) below = at (n == i) refl (λ less. sum-at i c n less)
  where
    at : (b : Bool) → (n == i) ≡ b → (i < n → sum_below (λ k. cond (k == i) c 0) n ≡ c) → sum_below (λ k. cond (k == i) c 0) n + cond b c 0 ≡ c
    at true is later = let same = eqb-true n i is in let rest = sum-none i c n (omega arith) in omega arith
    at false is later =
        let other : n ≡ i → ⊥ = λ same. true≢false (sym (eq-eqb n i same) ∙ is) in
        let rest = later (omega (arith, other)) in omega arith

sum-more : (old new : ℕ → (Packet → ℕ) → ℕ) (i : ℕ) (x : Packet) (n : ℕ) → i < n → OneMore old i x new → (f : Packet → ℕ) → sum_below (λ k. new k f) n ≡ sum_below (λ k. old k f) n + f x
sum-more old new i x n below more f =
    let a = sum-same (λ k. new k f) (λ k. old k f + cond (k == i) (f x) 0) n (λ k less. more k f) in
    let b = sum-add (λ k. old k f) (λ k. cond (k == i) (f x) 0) n in
    let c = sum-at i (f x) n below in omega arith

module _ (t : Topology) (custom : Custom) (n : ℕ) where
  abbrev sent_by : Bench → (Packet → ℕ) → ℕ
  sent_by a f = sum_below (λ i. a.sent i f) n

  abbrev taken_by : Bench → (Packet → ℕ) → ℕ
  taken_by a f = sum_below (λ i. a.taken i f) n

  -- a bench read as a station, with what others of two took lent to it
  abbrev lent_from : Bench → ((Packet → ℕ) → ℕ) → Station
  lent_from a more = record { waiting = λ f. a.station.waiting f + (sent_by a f + more f); kept = a.station.kept; given = a.station.given }

  pub works-then : (a b c : Bench) (h k : History) → Works t custom n a h b → Works t custom n b k c → Works t custom n a (joined h k) c
  works-then a b c h k one two =
      let m = moves-then t custom (lent_from a (λ f. taken_by b f + taken_by c f)) (lent_from b (λ f. taken_by a f + taken_by c f)) (lent_from c (λ f. taken_by a f + taken_by b f)) h k
      (record { packets = λ f. let e = one.packets f in let d = one.takes f in omega arith; notes = one.notes; draws = one.draws; well = one.well })
      (record { packets = λ f. let e = two.packets f in let d = two.takes f in omega arith; notes = two.notes; draws = two.draws; well = two.well }) in record {
        packets = λ f. let i = issued-joined t custom f h k in let x = one.packets f in let y = two.packets f in omega arith;
        takes = λ f. let j = taken-joined f h k in let x = one.takes f in let y = two.takes f in omega arith;
        notes = m.notes;
        draws = m.draws;
        well = m.well;
      }

  -- one send
  pub works-hand : (a b : Bench) (i : ℕ) (x : Packet) → i < n → ((f : Packet → ℕ) → b.station.waiting f + f x ≡ a.station.waiting f) → OneMore a.sent i x b.sent
      → ((k : ℕ) (f : Packet → ℕ) → b.taken k f ≡ a.taken k f) → ((g : Root → AckMsg → ℕ) → a.station.kept g ≡ b.station.kept g) → ((s j : ℕ) → a.station.given s j ≡ b.station.given s j)
      → Works t custom n a nothing b
  works-hand a b i x below less more same kept given = record {
    packets = λ f. let l = less f in let m = sum-more a.sent b.sent i x n below more f in omega arith;
    takes = λ f. let e = sum-same (λ k. b.taken k f) (λ k. a.taken k f) n (λ k less. same k f) in omega arith;
    notes = λ g. let e = kept g in omega arith;
    draws = λ s j. let e = given s j in omega arith;
    well = well-nothing t custom;
  }

  -- a packet was taken from box i and worked on
  pub works-take : (a b : Bench) (i : ℕ) (x : Packet) (h : History) → i < n → ((f : Packet → ℕ) → taken f h ≡ f x) → OneMore a.taken i x b.taken
      → ((k : ℕ) (f : Packet → ℕ) → b.sent k f ≡ a.sent k f)
      → Moves t custom (beside (holding (x ∷ [])) a.station) h b.station → Works t custom n a h b
  works-take a b i x h below is more same m = record {
    packets = λ f. let e = m.packets f in let k = is f in let s = sum-same (λ k. b.sent k f) (λ k. a.sent k f) n (λ k less. same k f) in omega arith;
    takes = λ f. let e = sum-more a.taken b.taken i x n below more f in let k = is f in omega arith;
    notes = λ g. let e = m.notes g in omega arith;
    draws = λ s j. let e = m.draws s j in omega arith;
    well = m.well;
  }

  -- work that takes no packet
  pub works-move : (a b : Bench) (h : History) → ((f : Packet → ℕ) → taken f h ≡ 0) → ((k : ℕ) (f : Packet → ℕ) → b.taken k f ≡ a.taken k f)
      → ((k : ℕ) (f : Packet → ℕ) → b.sent k f ≡ a.sent k f) → Moves t custom a.station h b.station → Works t custom n a h b
  works-move a b h none gone sent m = record {
    packets = λ f. let e = m.packets f in let k = none f in let s = sum-same (λ k. b.sent k f) (λ k. a.sent k f) n (λ k less. sent k f) in omega arith;
    takes = λ f. let e = sum-same (λ k. b.taken k f) (λ k. a.taken k f) n (λ k less. gone k f) in let k = none f in omega arith;
    notes = m.notes;
    draws = m.draws;
    well = m.well;
  }

  -- a stretch from fresh passes on is a share
  pub works-share : (a b : Bench) (h : History) → IsFresh a → Works t custom n a h b → DoesShare t custom n (share_of a h b)
  works-share a b h fresh w =
      let s : (f : Packet → ℕ) → sent_by a f ≡ 0 = λ f. sum-same (λ i. a.sent i f) (λ i. 0) n (λ i less. fresh.sent i f) ∙ sum-zero n in
      let k : (f : Packet → ℕ) → taken_by a f ≡ 0 = λ f. sum-same (λ i. a.taken i f) (λ i. 0) n (λ i less. fresh.taken i f) ∙ sum-zero n in record {
        packets = λ f. let e = w.packets f in let z = s f in omega arith;
        takes = λ f. let e = w.takes f in let z = k f in omega arith;
        notes = w.notes;
        draws = w.draws;
        well = w.well;
      }

-- ---- books of one box

sum-only : (g : ℕ → ℕ) (k n : ℕ) → k < n → ((i : ℕ) → (i ≡ k → ⊥) → g i ≡ 0) → sum_below g n ≡ g k
sum-only g k zero below none = absurd (omega arith)
sum-only g k (suc n) below none = at (n == k) refl (λ less. sum-only g k n less none)
  where
    at : (b : Bool) → (n == k) ≡ b → (k < n → sum_below g n ≡ g k) → sum_below g n + g n ≡ g k
    at true is later =
        let same = eqb-true n k is in
        let e : g n ≡ g k = ap g same in
        let rest : sum_below g n ≡ 0 = sum-same g (λ i. 0) n (λ i less. none i (λ is. omega arith)) ∙ sum-zero n in omega arith
    at false is later =
        let other : n ≡ k → ⊥ = λ same. true≢false (sym (eq-eqb n k same) ∙ is) in
        let first = none n other in
        let rest = later (omega (arith, other)) in omega arith

-- at weights that are 0 on what other boxes took, the taken book of a box is what was taken
pub gathered-at : (t : Topology) (custom : Custom) (h : History) (n : ℕ) (books : ℕ → Books) (out : (Packet → ℕ) → ℕ) → Gathered t custom h n books out
    → (k : ℕ) (f : Packet → ℕ) → k < n → ((i : ℕ) → (i ≡ k → ⊥) → (books i).taken f ≡ 0) → (books k).taken f ≡ taken f h
gathered-at t custom h n books out is k f below none = sym (sum-only (λ i. (books i).taken f) k n below none) ∙ is.taken f
