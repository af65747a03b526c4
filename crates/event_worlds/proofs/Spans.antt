-- Attempts keep the rows that their roots were begun with.
use Rattle.std.proofs.Common.{◌≡◌, ◌≤◌, ℕ, ◌+◌, Bool, true, false, cond, List, [], ◌∷◌, ◌++◌, length, map, refl, sym, ap, subst, ◌∙◌, arith}
use Rattle.std.specs.List.{AllByRecursion}
use Rattle.commit_order.specs.attempt_fates.declared.fates.Attempt.{Attempt}
use Rattle.commit_order.specs.attempt_fates.Fates.{HasBatch}
use Rattle.commit_order.specs.bolt_ops.RowOp.{Custom}
use Rattle.commit_order.specs.commit_turns.Account.{desk_of, ended_of, ends_of, rows_at, waits_of}
use Rattle.commit_order.specs.commit_turns.Desks.{Desk}
use Rattle.commit_order.specs.commit_turns.Kept.{HaveSpans, IsWaiting}
use Rattle.commit_order.specs.commit_turns.declared.wait.Wait.{Wait}
use Rattle.commit_order.specs.counted_items.Weights.{Within, weigh}
use Rattle.commit_order.proofs.counted_items.Each.{each-append, each-both, each-map, each-to_map, each-weaker}
use Rattle.commit_order.proofs.counted_items.Equality.{each-within}
use Rattle.commit_order.proofs.counted_items.Weighing.{each-weighs, weigh-append, weigh-map, weigh-same_each}
use Rattle.commit_order.specs.Orders.{OpenFrom, Stand, stand_after}
use Rattle.event_worlds.specs.Accounted.{BeganWith, BeginsWithBatch, LedAt, rows_by}
use Rattle.event_worlds.specs.Added.{placed}
use Rattle.event_worlds.specs.Worlds.{Known}
use Rattle.commit_order.specs.record_spans.declared.span.Span.{Span}
use Rattle.commit_order.specs.rotating_ledger.Held.{root_code, root_eq}
use Rattle.commit_order.proofs.rotating_ledger.RootLemmas.{root_eq-same}
use Rattle.commit_order.specs.storm_values.declared.value.Root.{Root}
use Rattle.commit_order.specs.storm_values.declared.value.Value.{Value}
use Rattle.commit_order.specs.topology_plan.Topology.{Topology}
use Rattle.commit_order.specs.taken_records.Cuts.{Cut}
use Rattle.commit_order.specs.tuple_account.Ends.{Ended, Waits}
use Rattle.commit_order.specs.tuple_account.Fits.{Fits}
use Rattle.commit_order.specs.tuple_account.Histories.{History, Opening, opens, rows_in}
use Rattle.commit_order.specs.tuple_account.Moves.{AreRows, Station}
use Rattle.commit_order.proofs.tuple_account.Reading.{rows_are_found}
use Rattle.commit_order.proofs.tuple_tickets.Roots.{root_itself}

-- ---- roots that were begun

-- what was begun first is found first
rows_first : (os more : List Opening) (root : Root) → 1 ≤ weigh (opens root) os → rows_in (os ++ more) root ≡ rows_in os root
rows_first [] more root some = absurd (omega arith)
rows_first (o ∷ os) more root some = by (root_eq o.begun.root root) some (rows_first os more root)
  where
    by : (b : Bool) → 1 ≤ cond {A = ℕ} b 1 0 + weigh (opens root) os → (1 ≤ weigh (opens root) os → rows_in (os ++ more) root ≡ rows_in os root)
        → cond b o.begun.rows (rows_in (os ++ more) root) ≡ cond b o.begun.rows (rows_in os root)
    by true here later = refl
    by false there later = later (omega arith)

module _ (t : Topology) (cut : Cut) (d : Desk) (fates : List Attempt) (h : History) (fits : Fits t (desk_of cut d) (ends_of fates) h) where
  -- the weight that is 1 at a root
  abbrev at_root : Root → Root → ℕ
  at_root root r = cond (root_eq r root) 1 0

  own : (root : Root) → at_root root root ≡ 1
  own root = rw (root_itself root root refl) refl

  begun_weight : (f : Root → ℕ) → weigh (λ (o : Opening). f o.begun.root) h.begun ≡ weigh (λ (a : Attempt). f a.root) fates + weigh (λ (w : Wait). f w.root) d.pending
  begun_weight f =
      let e = fits.begun f in
      let a = weigh-map (λ (a : Ended). f a.root) ended_of fates in
      let w = weigh-map (λ (w : Waits). f w.root) waits_of d.pending in omega arith

  waits_begun : AllByRecursion (λ (w : Wait). 1 ≤ weigh (opens w.root) h.begun) d.pending
  waits_begun =
      each-weaker (λ (w : Wait). (f : Wait → ℕ) → f w ≤ weigh f d.pending) (λ (w : Wait). 1 ≤ weigh (opens w.root) h.begun)
      (λ w weighs. let o = own w.root in let l = weighs (λ (v : Wait). at_root w.root v.root) in let e = begun_weight (at_root w.root) in omega arith)
      d.pending (each-weighs d.pending)

  ends_begun : AllByRecursion (λ (a : Attempt). 1 ≤ weigh (opens a.root) h.begun) fates
  ends_begun =
      each-weaker (λ (a : Attempt). (f : Attempt → ℕ) → f a ≤ weigh f fates) (λ (a : Attempt). 1 ≤ weigh (opens a.root) h.begun)
      (λ a weighs. let o = own a.root in let l = weighs (λ (b : Attempt). at_root a.root b.root) in let e = begun_weight (at_root a.root) in omega arith)
      fates (each-weighs fates)

  -- what begins later changes nothing of what began
  pub later-begins : (more : List Opening) → HaveSpans (BeganWith cut h.begun) d fates → HaveSpans (BeganWith cut (h.begun ++ more)) d fates
  later-begins more have = record {
    waits = each-weaker (λ (w : Wait). BeganWith cut h.begun w.root w.spans × (1 ≤ weigh (opens w.root) h.begun)) (λ (w : Wait). BeganWith cut (h.begun ++ more) w.root w.spans)
        (λ w both. both.0 ∙ sym (rows_first h.begun more w.root both.1)) d.pending
        (each-both (λ (w : Wait). BeganWith cut h.begun w.root w.spans) (λ (w : Wait). 1 ≤ weigh (opens w.root) h.begun) d.pending have.waits waits_begun);
    ends = each-weaker (λ (a : Attempt). BeganWith cut h.begun a.root a.spans × (1 ≤ weigh (opens a.root) h.begun)) (λ (a : Attempt). BeganWith cut (h.begun ++ more) a.root a.spans)
        (λ a both. both.0 ∙ sym (rows_first h.begun more a.root both.1)) fates
        (each-both (λ (a : Attempt). BeganWith cut h.begun a.root a.spans) (λ (a : Attempt). 1 ≤ weigh (opens a.root) h.begun) fates have.ends ends_begun);
  }

  -- what is so of the roots of all attempts is so of all roots that were begun
  begun_roots : (Q : Root → Type 0) → AllByRecursion (λ (a : Attempt). Q a.root) fates → AllByRecursion (λ (w : Wait). Q w.root) d.pending → AllByRecursion (λ (o : Opening). Q o.begun.root) h.begun
  begun_roots Q ends waits =
      let all : List Root = map (λ (a : Attempt). a.root) fates ++ map (λ (w : Wait). w.root) d.pending in
      each-map Q (λ (o : Opening). o.begun.root) h.begun
      (each-within root_code Q (map (λ (o : Opening). o.begun.root) h.begun) all within
      (each-append Q (map (λ (a : Attempt). a.root) fates) (map (λ (w : Wait). w.root) d.pending)
      (each-to_map Q (λ (a : Attempt). a.root) fates ends) (each-to_map Q (λ (w : Wait). w.root) d.pending waits)))
    where
      within : Within (map (λ (o : Opening). o.begun.root) h.begun) (map (λ (a : Attempt). a.root) fates ++ map (λ (w : Wait). w.root) d.pending)
      within f =
          let e = begun_weight f in
          let o = weigh-map f (λ (o : Opening). o.begun.root) h.begun in
          let p = weigh-append f (map (λ (a : Attempt). a.root) fates) (map (λ (w : Wait). w.root) d.pending) in
          let a = weigh-map f (λ (a : Attempt). a.root) fates in
          let w = weigh-map f (λ (w : Wait). w.root) d.pending in omega arith

-- the same, where the same was begun
pub spans-alike : (cut : Cut) (d : Desk) (fates : List Attempt) (xs ys : List Opening) → xs ≡ ys → HaveSpans (BeganWith cut xs) d fates → HaveSpans (BeganWith cut ys) d fates
spans-alike cut d fates xs ys same have = subst (λ (os : List Opening). HaveSpans (BeganWith cut os) d fates) same have

-- ---- attempts that begin

-- what is so of openings is so of the attempts that they open
pub opened-all : (cut : Cut) (source at : ℕ) (R : Root → List (List Value) → Type 0) (s end : Stand) (begun : List Wait) (openings : List Opening) → OpenFrom cut source s begun openings end
    → AllByRecursion (λ (o : Opening). R o.begun.root o.begun.rows) (placed at openings) → AllByRecursion (λ (w : Wait). R w.root (rows_at cut w.spans)) begun
opened-all cut source at R s end [] [] from all = tt
opened-all cut source at R s end [] (o ∷ openings) from all = absurd from
opened-all cut source at R s end (w ∷ begun) [] from all = absurd from
opened-all cut source at R s end (w ∷ begun) (o ∷ openings) from all = (
  subst (λ (p : Opening). R p.begun.root p.begun.rows) from.0 all.0,
  opened-all cut source (at + length o.begun.ids) R (stand_after o s) end begun openings from.2 all.1,
)

-- ---- the rows of attempts that ended

-- of a root of one of them the first one has the same
pub rows_by-found : (cut : Cut) (begun : List Opening) (fates : List Attempt) → AllByRecursion (λ (a : Attempt). BeganWith cut begun a.root a.spans) fates
    → AllByRecursion (λ (a : Attempt). rows_by cut fates a.root ≡ rows_in begun a.root) fates
rows_by-found cut begun fates have =
    each-weaker (λ (a : Attempt). (f : Attempt → ℕ) → f a ≤ weigh f fates) (λ (a : Attempt). rows_by cut fates a.root ≡ rows_in begun a.root)
    (λ a weighs. first a.root fates have (let l = weighs (λ (b : Attempt). cond (root_eq b.root a.root) 1 0) in let o : cond {A = ℕ} (root_eq a.root a.root) 1 0 ≡ 1 = rw (root_itself a.root a.root refl) refl in omega arith))
    fates (each-weighs fates)
  where
    first : (root : Root) (xs : List Attempt) → AllByRecursion (λ (a : Attempt). BeganWith cut begun a.root a.spans) xs → 1 ≤ weigh (λ (b : Attempt). cond (root_eq b.root root) 1 0) xs
        → rows_by cut xs root ≡ rows_in begun root
    first root [] all some = absurd (omega arith)
    first root (x ∷ xs) all some = by (root_eq x.root root) refl some (first root xs all.1)
      where
        by : (b : Bool) → root_eq x.root root ≡ b → 1 ≤ cond {A = ℕ} b 1 0 + weigh (λ (a : Attempt). cond (root_eq a.root root) 1 0) xs
            → (1 ≤ weigh (λ (a : Attempt). cond (root_eq a.root root) 1 0) xs → rows_by cut xs root ≡ rows_in begun root)
            → cond b (rows_at cut x.spans) (rows_by cut xs root) ≡ rows_in begun root
        by true is here later = all.0 ∙ ap (rows_in begun) (root_eq-same x.root root is)
        by false is there later = later (omega arith)

-- ---- roots begin with the rows of their batches

module _ (t : Topology) (custom : Custom) (cut : Cut) (words : ℕ → ℕ → ℕ) (all : Station) (h : History) (k : Known)
    (led : LedAt t custom cut words all h k) where
  found : AreRows (rows_in h.begun) h.begun
  found = rows_are_found t custom h all led.reached

  -- what was begun are the attempts that ended and those that are pending, each with the rows of its records
  pub begun-attempts : (f : Root → List (List Value) → ℕ)
      → weigh (λ (o : Opening). f o.begun.root o.begun.rows) h.begun
      ≡ weigh (λ (a : Attempt). f a.root (rows_at cut a.spans)) k.world.fates + weigh (λ (w : Wait). f w.root (rows_at cut w.spans)) k.world.desk.pending
  begun-attempts f =
      let first = weigh-same_each (λ (o : Opening). f o.begun.root o.begun.rows) (λ (o : Opening). f o.begun.root (rows_in h.begun o.begun.root))
      (λ (o : Opening). o.begun.rows ≡ rows_in h.begun o.begun.root)
      (λ o is. ap (f o.begun.root) is) h.begun found in
      let each = begun_weight t cut k.world.desk k.world.fates h led.fits (λ (root : Root). f root (rows_in h.begun root)) in
      let ends = weigh-same_each (λ (a : Attempt). f a.root (rows_at cut a.spans)) (λ (a : Attempt). f a.root (rows_in h.begun a.root))
      (λ (a : Attempt). BeganWith cut h.begun a.root a.spans)
      (λ a is. ap (f a.root) is) k.world.fates led.spans.ends in
      let waits = weigh-same_each (λ (w : Wait). f w.root (rows_at cut w.spans)) (λ (w : Wait). f w.root (rows_in h.begun w.root))
      (λ (w : Wait). BeganWith cut h.begun w.root w.spans)
      (λ w is. ap (f w.root) is) k.world.desk.pending led.spans.waits in omega arith

  -- the root's rows are those of a batch of its transaction
  abbrev its_batch : Root → Type 0
  its_batch root = (spans : List Span) × HasBatch cut root.txid spans × (rows_in h.begun root ≡ rows_at cut spans)

  ends_batched : AllByRecursion (λ (a : Attempt). its_batch a.root) k.world.fates
  ends_batched =
      each-weaker (λ (a : Attempt). BeganWith cut h.begun a.root a.spans × HasBatch cut a.root.txid a.spans) (λ (a : Attempt). its_batch a.root)
      (λ a both. (a.spans, both.1, sym both.0)) k.world.fates
      (each-both (λ (a : Attempt). BeganWith cut h.begun a.root a.spans)
      (λ (a : Attempt). HasBatch cut a.root.txid a.spans) k.world.fates led.spans.ends led.kept.once.batches)

  waits_batched : AllByRecursion (λ (w : Wait). its_batch w.root) k.world.desk.pending
  waits_batched =
      each-weaker (λ (w : Wait). BeganWith cut h.begun w.root w.spans × IsWaiting t cut k.world.desk w) (λ (w : Wait). its_batch w.root)
      (λ w both. (w.spans, both.1.batch, sym both.0)) k.world.desk.pending
      (each-both (λ (w : Wait). BeganWith cut h.begun w.root w.spans) (IsWaiting t cut k.world.desk) k.world.desk.pending led.spans.waits led.kept.waits)

  -- what led to a world began each root with the rows of such a batch
  pub begun-batches : AllByRecursion (BeginsWithBatch cut) h.begun
  begun-batches =
      each-weaker (λ (o : Opening). (o.begun.rows ≡ rows_in h.begun o.begun.root) × its_batch o.begun.root) (BeginsWithBatch cut)
      (λ o both. (both.1.0, both.1.1, both.0 ∙ both.1.2)) h.begun
      (each-both (λ (o : Opening). o.begun.rows ≡ rows_in h.begun o.begun.root) (λ (o : Opening). its_batch o.begun.root) h.begun
      found (begun_roots t cut k.world.desk k.world.fates h led.fits its_batch ends_batched waits_batched))
