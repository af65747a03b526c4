-- Without partitions the batches that are committed are those of the input, in its order.
use Rattle.std.proofs.Common.{◌≡◌, ℕ, zero, suc, ◌+◌, ◌-◌, ◌*◌, ◌<◌, ◌≤◌, Bool, true, false, cond, List, [], ◌∷◌, length, map, take, drop, replicate, slice_index_or, refl, ap, subst, ◌∙◌, arith}
use Rattle.std.specs.List.{AllByRecursion, flat_map, range_with_len}
use Rattle.std.proofs.lemmas.List.{length-append, length-drop, length-map}
use Rattle.event_worlds.specs.attempt_fates.declared.fates.Attempt.{Attempt}
use Rattle.event_worlds.specs.attempt_fates.Fates.{HasBatch, IsWhole, committed, committed_records, committed_txids, is_committed, record_at, records_in}
use Rattle.event_worlds.proofs.attempt_fates.RecordLemmas.{records_after}
use Rattle.event_worlds.proofs.record_offers.BatchLemmas.{least}
use Rattle.event_worlds.specs.record_offers.Offers.{batch_count}
use Rattle.event_worlds.specs.record_spans.Spans.{records_of}
use Rattle.event_worlds.specs.storm_values.declared.value.Value.{Value}
use Rattle.event_worlds.specs.taken_records.Cuts.{Cut, IsStart}
use Rattle.event_worlds.specs.topology_plan.Topology.{Topology}
use Rattle.schedule_core.specs.Runs.{IsFirst}
use Rattle.storm_answers.specs.Reports.{cut_by}

-- ---- no record is gone

none_marked : (n i : ℕ) → i < n → slice_index_or (replicate n false) i true ≡ false
none_marked zero i within = absurd (omega arith)
none_marked (suc n) zero within = refl
none_marked (suc n) (suc i) within = none_marked n i (omega arith)

marks_of : (n : ℕ) → length (replicate n false) ≡ n
marks_of zero = refl
marks_of (suc n) = ap suc (marks_of n)

pub begins_first : (plan : Topology) (records : List (List Value)) → IsFirst (cut_by plan records)
begins_first plan records = record {
  start = refl;
  none_gone = λ n first last.
      let marks = marks_of (length records) in
      none_marked (length records) (n - 1) (omega (arith, first, last, marks));
}

-- ---- how many there are

one_at_most : {R : Type 0} (xs : List R) → length (take 1 xs) ≤ 1
one_at_most [] = omega arith
one_at_most (x ∷ xs) = omega arith

no_more_records : {R : Type 0} (records : List R) (numbers : List ℕ) → length (flat_map (record_at records) numbers) ≤ length numbers
no_more_records records [] = omega arith
no_more_records records (n ∷ numbers) =
    let here = one_at_most (drop (n - 1) records) in
    let rest = no_more_records records numbers in
    let both = length-append (record_at records n) (flat_map (record_at records) numbers) in
    omega (arith, here, rest, both)

in_committed : (P : Attempt → Type 0) (fates : List Attempt) → AllByRecursion P fates → AllByRecursion P (committed fates)
in_committed P [] all = tt
in_committed P (a ∷ fates) all = by (is_committed a.end) (in_committed P fates all.1)
  where
    by : (b : Bool) → AllByRecursion P (committed fates) → AllByRecursion P (cond b (a ∷ committed fates) (committed fates))
    by true rest = (all.0, rest)
    by false rest = rest

no_more_in_batches : (cut : Cut) (as_ : List Attempt) → AllByRecursion (λ (a : Attempt). HasBatch cut a.root.txid a.spans) as_
    → length (flat_map (records_in cut.records) (map (λ (a : Attempt). a.spans) as_)) ≤ length as_ * cut.size
no_more_in_batches cut [] all = omega arith
no_more_in_batches cut (a ∷ as_) all =
    let here = no_more_records cut.records (records_of a.spans) in
    let few = all.0.batch.few in
    let rest = no_more_in_batches cut as_ all.1 in
    let both = length-append (records_in cut.records a.spans) (flat_map (records_in cut.records) (map (λ (b : Attempt). b.spans) as_)) in
    let product : length (a ∷ as_) * cut.size ≡ cut.size + length as_ * cut.size = omega arith in
    omega (arith, here, few, rest, both, product)

-- numbers in a row that are at most so large are no more
few_in_row : (first count most : ℕ) → AllByRecursion (λ (n : ℕ). n ≤ most) (range_with_len first count) → first ≤ most + 1 → first + count ≤ most + 1
few_in_row first zero most all low = omega (arith, low)
few_in_row first (suc count) most all low =
    let here = all.0 in
    let rest = few_in_row (first + 1) count most all.1 (omega (arith, here)) in
    omega (arith, rest)

module _ (cut : Cut) (ticks : ℕ) (fates : List Attempt) (start : IsStart cut) (none : cut.partitions ≡ 0) (whole : IsWhole cut ticks fates) where
  -- the records of the commits are those behind the batches of the start
  pub rest_in_order : committed_records cut.records fates ≡ drop (cut.start * cut.size) cut.records
  rest_in_order = records_after cut ticks fates start none whole

  all_have : AllByRecursion (λ (a : Attempt). HasBatch cut a.root.txid a.spans) (committed fates)
  all_have = in_committed (λ (a : Attempt). HasBatch cut a.root.txid a.spans) fates whole.once.batches

  enough : length cut.records ≤ (cut.start + length (committed fates)) * cut.size
  enough =
      let all = ap length rest_in_order in
      let left = length-drop (cut.start * cut.size) cut.records in
      let few = no_more_in_batches cut (committed fates) all_have in
      let product : (cut.start + length (committed fates)) * cut.size ≡ cut.start * cut.size + length (committed fates) * cut.size = omega arith in
      omega (arith, all, left, few, product)

  txids_few : (as_ : List Attempt) → AllByRecursion (λ (a : Attempt). HasBatch cut a.root.txid a.spans) as_ → AllByRecursion (λ (n : ℕ). n ≤ batch_count (length cut.gone) cut.size) (map (λ (a : Attempt). a.root.txid) as_)
  txids_few [] all = tt
  txids_few (a ∷ as_) all = ((all.0.numbered none).0, txids_few as_ all.1)

  no_more : cut.start + length (committed fates) ≤ batch_count (length cut.gone) cut.size
  no_more =
      let row = subst (λ ns. AllByRecursion (λ (n : ℕ). n ≤ batch_count (length cut.gone) cut.size) ns) whole.once.in_order (txids_few (committed fates) all_have) in
      let count = length-map (committed fates) (λ (a : Attempt). a.root.txid) in
      let early = start.early none in
      let few = few_in_row (cut.start + 1) (length (committed_txids fates)) (batch_count (length cut.gone) cut.size) row (omega (arith, early)) in
      omega (arith, few, count)

  -- and with those there are as many as the input has batches
  pub all_batches_after : cut.start + length (committed fates) ≡ batch_count (length cut.records) cut.size
  all_batches_after =
      let least_so = least (length cut.records) cut.size (cut.start + length (committed fates)) start.some enough in
      let most_so = no_more in
      let same = ap (λ n. batch_count n cut.size) start.marks in
      omega (arith, least_so, most_so, same)

module _ (cut : Cut) (ticks : ℕ) (fates : List Attempt) (start : IsStart cut) (first : cut.start ≡ 0) (none : cut.partitions ≡ 0) (whole : IsWhole cut ticks fates) where
  -- from the first transaction on the records of the commits are those of the input
  pub records_in_order : committed_records cut.records fates ≡ cut.records
  records_in_order =
      let at_start : cut.start * cut.size ≡ 0 = ap (λ n. n * cut.size) first ∙ (omega arith) in
      rest_in_order cut ticks fates start none whole ∙ ap (λ n. drop n cut.records) at_start

  pub all_batches : length (committed fates) ≡ batch_count (length cut.records) cut.size
  all_batches =
      let all = all_batches_after cut ticks fates start none whole in omega (arith, all, first)
