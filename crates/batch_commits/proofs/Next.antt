-- The commit that is ordered next is of the next batch, which has records that were not committed.
use Rattle.std.proofs.Common.{◌≡◌, ◌≤◌, ◌+◌, ◌==◌, ◌&&◌, ℕ, Bool, true, false, cond, List, [], ◌∷◌, ◌++◌, length, map, None, Some, is_some, refl, ap, subst, ◌∙◌, arith, eqb-true}
use Rattle.std.specs.Prelude.{nat_le}
use Rattle.std.specs.List.{AllByRecursion, find}
use Rattle.std.proofs.lemmas.Bool.{and_parts}
use Rattle.std.proofs.lemmas.Bool.Decides.{nat_tests}
use Rattle.std.proofs.lemmas.List.{length-append, length-map, map-append}
use Rattle.attempt_fates.specs.declared.fates.Attempt.{Attempt}
use Rattle.attempt_fates.specs.Fates.{committed, committed_batches}
use Rattle.batch_commits.specs.Standing.{HoldAll, IsNextBatch}
use Rattle.commit_turns.specs.declared.wait.Wait.{Wait}
use Rattle.commit_turns.specs.Desks.{Desk}
use Rattle.commit_turns.specs.Kept.{IsKept, IsWaiting}
use Rattle.commit_turns.specs.Turns.{next_to_commit}
use Rattle.record_offers.specs.Offers.{is_gone}
use Rattle.record_spans.specs.declared.span.Span.{Span}
use Rattle.record_spans.specs.Spans.{stands_in}
use Rattle.taken_records.proofs.Running.{stands_within}
use Rattle.taken_records.proofs.Taking.{once_at_most, times_among, times_append}
use Rattle.taken_records.specs.Cuts.{Cut}
use Rattle.taken_records.specs.Taken.{IsBatch, batch_spans, one_if, times_in}
use Rattle.tuple_account.proofs.counted_items.Each.{each-back}
use Rattle.tuple_account.specs.topology_plan.Topology.{Topology}

-- what is found stands between others
record IsFound {X : Type 0} (p : X → Bool) (xs : List X) (x : X) : Type 0 where
  front : List X
  back : List X
  split : xs ≡ front ++ x ∷ back
  passes : p x ≡ true

found_in : {X : Type 0} (p : X → Bool) (xs : List X) (x : X) → find p xs ≡ Some x → IsFound p xs x
found_in p [] x is = absurd (let e : None ≡ Some x = is in cc)
found_in {X} p (y ∷ ys) x is = by (p y) refl is (found_in p ys x)
  where
    by : (b : Bool) → p y ≡ b → cond b (Some y) (find p ys) ≡ Some x → (find p ys ≡ Some x → IsFound p ys x) → IsFound p (y ∷ ys) x
    by true here e rest =
        let same : y ≡ x = (let f : Some y ≡ Some x = e in cc) in
        record { front = []; back = ys; split = ap (λ (z : X). z ∷ ys) same; passes = subst (λ (z : X). p z ≡ true) same here }
    by false here e rest =
        let r = rest e in
        record { front = y ∷ r.front; back = r.back; split = ap (λ (zs : List X). y ∷ zs) r.split; passes = r.passes }

-- a batch has a record
some_record : (records size : ℕ) (spans : List Span) → IsBatch records size spans → (n : ℕ) × (stands_in spans n ≡ true)
some_record records size [] batch = absurd (let some = batch.some in omega (arith, some))
some_record records size (span ∷ spans) batch =
    let least : nat_le span.first span.first ≡ true = grind (arith, nat_tests) in
    let most : nat_le span.first span.last ≡ true = (let long = batch.apart.1 in grind (arith, nat_tests, long)) in
    (span.first, rw (least, most) refl)

module _ (t : Topology) (cut : Cut) (d : Desk) (fates : List Attempt) (before : List (List Span)) (w : Wait)
    (kept : IsKept t cut d fates) (next : next_to_commit t cut d ≡ Some w) where
  found : IsFound (λ (v : Wait). (v.root.txid == d.committed + 1) && is_some v.settled) d.pending w
  found = found_in (λ (v : Wait). (v.root.txid == d.committed + 1) && is_some v.settled) d.pending w next

  waits : IsWaiting t cut d w
  waits =
      (each-back (IsWaiting t cut d) found.front (w ∷ found.back)
      (subst (λ (ws : List Wait). AllByRecursion (IsWaiting t cut d) ws) found.split kept.waits)).0

  pub next_number : length before ≡ cut.start → w.root.txid ≡ length (before ++ committed_batches fates) + 1
  next_number start =
      let txid = eqb-true w.root.txid (d.committed + 1) (and_parts (w.root.txid == d.committed + 1) (is_some w.settled) found.passes).0 in
      let commits = kept.commits in
      let txids = length-map (committed fates) (λ (a : Attempt). a.root.txid) in
      let batches = length-map (committed fates) (λ (a : Attempt). a.spans) in
      let both = length-append before (committed_batches fates) in
      omega (arith, txid, commits, txids, batches, both, start)

  pub next_batch : length before ≡ cut.start → IsNextBatch cut (before ++ committed_batches fates) w.spans
  next_batch start none =
      subst (λ (n : ℕ). w.spans ≡ batch_spans (length cut.gone) cut.size n) (next_number start) (waits.batch.numbered none).1

  abbrev pending_spans : List (List Span)
  pending_spans = map (λ (v : Wait). v.spans) d.pending

  -- what stands in the next batch stands in no other
  next_apart : (n : ℕ) → 1 ≤ n → n ≤ length cut.gone → stands_in w.spans n ≡ true
      → (is_gone cut.gone n ≡ false) × (times_in (committed_batches fates) n ≡ 0)
  next_apart n first last is =
      let once = once_at_most cut.gone d.gone cut.size (committed_batches fates ++ pending_spans) n kept.taken first last in
      let both = times_append (committed_batches fates) pending_spans n in
      let its = ap one_if is in
      let pending = ap (λ (batches : List (List Span)). times_in batches n)
      (ap (map (λ (v : Wait). v.spans)) found.split ∙ map-append (λ (v : Wait). v.spans) found.front (w ∷ found.back))
      ∙ times_among (map (λ (v : Wait). v.spans) found.front) (map (λ (v : Wait). v.spans) found.back) w.spans n in
      (none (is_gone cut.gone n) (omega (arith, once, both, its, pending)), omega (arith, once, both, its, pending))
    where
      none : (b : Bool) → one_if b ≡ 0 → b ≡ false
      none true e = absurd (omega (arith, e))
      none false e = refl

  pub next_left : ((n : ℕ) → 1 ≤ n → n ≤ length cut.gone → is_gone cut.gone n ≡ false → times_in before n ≡ 0)
      → HoldAll cut (before ++ committed_batches fates) → ⊥
  next_left early all =
      let one = some_record (length cut.gone) cut.size w.spans waits.batch.batch in
      let within = stands_within (length cut.gone) cut.size w.spans one.0 waits.batch.batch one.1 in
      let apart = next_apart one.0 within.0 within.1 one.1 in
      let held = all one.0 within.0 within.1 in
      let old = early one.0 within.0 within.1 apart.0 in
      let more = apart.1 in
      let both = times_append before (committed_batches fates) one.0 in
      omega (arith, held, old, more, both)
