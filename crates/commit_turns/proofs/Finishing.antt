-- Where no record is left uncommitted.
use Rattle.std.proofs.Common.{◌≡◌, ◌↔◌, ℕ, zero, suc, ◌+◌, ◌≤◌, ◌==◌, true, List, [], ◌∷◌, ◌++◌, length, map, refl, ap, subst, ◌∙◌, arith, eq-eqb, eqb-true}
use Rattle.std.specs.List.{AllByRecursion, range_with_len}
use Rattle.std.proofs.lemmas.Bool.{and_parts}
use Rattle.std.proofs.lemmas.List.{append-nil}
use Rattle.tuple_account.specs.topology_plan.Topology.{Topology}
use Rattle.tuple_account.proofs.counted_items.Each.{each-weaker}
use Rattle.record_offers.specs.Offers.{batch_count, left_in}
use Rattle.taken_records.specs.Taken.{AreTaken, batch_spans}
use Rattle.taken_records.proofs.Batching.{all_batches_taken, taken_all_batches}
use Rattle.taken_records.proofs.Leaving.{all_taken}
use Rattle.commit_turns.specs.declared.wait.Wait.{Wait}
use Rattle.taken_records.specs.Cuts.{Cut, IsStart}
use Rattle.attempt_fates.specs.declared.fates.Attempt.{Attempt}
use Rattle.attempt_fates.specs.Fates.{HasBatch, IsWhole, committed_batches, committed_txids, is_committed}
use Rattle.attempt_fates.specs.Fates.{committed as committed_of}
use Rattle.commit_turns.specs.Desks.{Desk}
use Rattle.commit_turns.specs.Kept.{IsKept, IsWaiting}
use Rattle.commit_turns.specs.Turns.{is_finished}
use Rattle.commit_turns.proofs.Beginning.{each_filtered, fates_numbered}
use Rattle.commit_turns.proofs.Holding.{spans_of}

pub whole_then : (t : Topology) (cut : Cut) (d : Desk) (fates : List Attempt) → IsKept t cut d fates → is_finished t cut d ≡ true → IsWhole cut d.tick fates
whole_then t cut d fates kept over =
    let parts = and_parts (left_in d.gone == 0) (length d.pending == 0) over in
    let left = eqb-true (left_in d.gone) 0 parts.0 in
    record {
      once = kept.once;
      all_records = λ n first last. all_taken cut.gone d.gone cut.size (committed_batches fates) n
          (subst (AreTaken cut.gone d.gone cut.size) (ap (λ (ws : List Wait). committed_batches fates ++ map spans_of ws) (none d.pending (eqb-true (length d.pending) 0 parts.1)) ∙ append-nil (committed_batches fates)) kept.taken) left first last;
    }
  where
    none : (ws : List Wait) → length ws ≡ 0 → ws ≡ []
    none [] is = refl
    none (w ∷ ws) is = absurd (omega (arith, is))

-- ---- without partitions

module _ (t : Topology) (cut : Cut) (start : IsStart cut) (d : Desk) (fates : List Attempt) (kept : IsKept t cut d fates) (none : cut.partitions ≡ 0) where
  abbrev many : ℕ
  many = batch_count (length cut.gone) cut.size

  abbrev made : ℕ
  made = length (committed_txids fates)

  empty_of : length d.pending ≡ 0 → d.pending ≡ []
  empty_of is = by d.pending is
    where
      by : (ws : List Wait) → length ws ≡ 0 → ws ≡ []
      by [] is = refl
      by (w ∷ ws) is = absurd (omega (arith, is))

  taken_in_row : d.pending ≡ [] → AreTaken cut.gone d.gone cut.size (map (batch_spans (length cut.gone) cut.size) (range_with_len (cut.start + 1) made))
  taken_in_row empty =
      subst (AreTaken cut.gone d.gone cut.size)
      (ap (λ (ws : List Wait). committed_batches fates ++ map spans_of ws) empty ∙ append-nil (committed_batches fates)
      ∙ fates_numbered cut none (committed_of fates)
      (each-weaker (λ (a : Attempt). HasBatch cut a.root.txid a.spans × (is_committed a.end ≡ true)) (λ (a : Attempt). HasBatch cut a.root.txid a.spans) (λ a both. both.0) (committed_of fates)
      (each_filtered (λ (a : Attempt). HasBatch cut a.root.txid a.spans) (λ (a : Attempt). is_committed a.end) fates kept.once.batches))
      ∙ ap (map (batch_spans (length cut.gone) cut.size)) kept.once.in_order)
      kept.taken

  -- no more are committed than there are
  few_committed : d.committed ≤ many
  few_committed = by made refl
    where
      txids_there : (xs : List Attempt) → AllByRecursion (λ (a : Attempt). HasBatch cut a.root.txid a.spans × (is_committed a.end ≡ true)) xs → AllByRecursion (λ (k : ℕ). k ≤ many) (map (λ (a : Attempt). a.root.txid) xs)
      txids_there [] all = tt
      txids_there (x ∷ xs) all = ((all.0.0.numbered none).0, txids_there xs all.1)

      last_there : (from n : ℕ) → AllByRecursion (λ (k : ℕ). k ≤ many) (range_with_len from (suc n)) → from + n ≤ many
      last_there from zero all = let a = all.0 in omega (arith, a)
      last_there from (suc n) all = let r = last_there (from + 1) n all.1 in omega (arith, r)

      by : (n : ℕ) → made ≡ n → d.committed ≤ many
      by zero is = let c = kept.commits in let e = start.early none in omega (arith, c, e, is)
      by (suc n) is =
          let c = kept.commits in
          let l = last_there (cut.start + 1) n (subst (λ (k : ℕ). AllByRecursion (λ (j : ℕ). j ≤ many) (range_with_len (cut.start + 1) k)) is
          (subst (AllByRecursion (λ (j : ℕ). j ≤ many)) kept.once.in_order
          (txids_there (committed_of fates) (each_filtered (λ (a : Attempt). HasBatch cut a.root.txid a.spans) (λ (a : Attempt). is_committed a.end) fates kept.once.batches)))) in
          omega (arith, c, l, is)

  -- those that are pending are there and not committed
  none_after : d.committed ≡ many → (ws : List Wait) → AllByRecursion (IsWaiting t cut d) ws → ws ≡ []
  none_after all [] waits = refl
  none_after all (w ∷ ws) waits = let there = (waits.0.batch.numbered none).0 in let later = waits.0.later in absurd (omega (arith, all, there, later))

  pub finished_where : (is_finished t cut d ≡ true) ↔ (d.committed ≡ many)
  finished_where = (forth, back)
    where
      forth : is_finished t cut d ≡ true → d.committed ≡ many
      forth over =
          let parts = and_parts (left_in d.gone == 0) (length d.pending == 0) over in
          let left = eqb-true (left_in d.gone) 0 parts.0 in
          let enough = taken_all_batches cut.gone d.gone cut.size cut.start made start.some (start.batches none) (taken_in_row (empty_of (eqb-true (length d.pending) 0 parts.1))) left in
          let c = kept.commits in
          let few = few_committed in
          omega (arith, enough, c, few)

      back : d.committed ≡ many → is_finished t cut d ≡ true
      back all =
          let empty = none_after all d.pending kept.waits in
          let left = all_batches_taken cut.gone d.gone cut.size cut.start made start.some (start.batches none) (taken_in_row empty) (let c = kept.commits in omega (arith, c, all)) in
          rw (eq-eqb (left_in d.gone) 0 left, eq-eqb (length d.pending) 0 (ap length empty)) refl
