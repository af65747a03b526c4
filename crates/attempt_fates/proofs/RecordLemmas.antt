-- In fates that are committed once and whole each record stands in one committed attempt, and without partitions they are the records after the start.
use Rattle.std.proofs.Common.{◌≡◌, inl, inr, ℕ, zero, suc, ◌+◌, ◌-◌, ◌*◌, ◌<◌, ◌≤◌, Bool, true, false, cond, List, [], ◌∷◌, ◌++◌, length, map, filter, take, drop, refl, sym, ap, ap₂, ◌∙◌, arith}
use Rattle.std.specs.Prelude.{min, nat_le}
use Rattle.std.specs.List.{AllByRecursion, flat_map, range_with_len}
use Rattle.std.proofs.Math.Nat.{mul-le-mul_right}
use Rattle.std.proofs.Math.Seq.{take-add}
use Rattle.std.proofs.lemmas.Bool.{cases_lt}
use Rattle.std.proofs.lemmas.Bool.Decides.{nat_tests}
use Rattle.std.proofs.lemmas.List.{drop-drop, length-drop, take_all}
use Rattle.record_spans.specs.Spans.{stands_in}
use Rattle.record_offers.specs.Offers.{batch_numbers, is_gone}
use Rattle.taken_records.specs.Cuts.{Cut, IsStart}
use Rattle.taken_records.specs.Taken.{batch_spans, one_if, times_in}
use Rattle.taken_records.proofs.Batching.{batch_has}
use Rattle.taken_records.proofs.Running.{batch_rises, next_end, runs_records}
use Rattle.attempt_fates.specs.declared.fates.Attempt.{Attempt}
use Rattle.attempt_fates.specs.Fates.{HasBatch, IsWhole, commits_of, committed, committed_batches, committed_records, committed_txids, is_committed, record_at, records_in}

-- ---- each record once

module _ (number : ℕ) where
  have_it : (cs : List Attempt) → length (filter (λ (a : Attempt). stands_in a.spans number) cs) ≡ times_in (map (λ (a : Attempt). a.spans) cs) number
  have_it [] = refl
  have_it (c ∷ cs) = by (stands_in c.spans number) (have_it cs)
    where
      by : (b : Bool) → length (filter (λ (a : Attempt). stands_in a.spans number) cs) ≡ times_in (map (λ (a : Attempt). a.spans) cs) number
          → length (cond b (c ∷ filter (λ (a : Attempt). stands_in a.spans number) cs) (filter (λ (a : Attempt). stands_in a.spans number) cs))
          ≡ one_if b + times_in (map (λ (a : Attempt). a.spans) cs) number
      by true rest = omega (arith, rest)
      by false rest = omega (arith, rest)

  module _ (cut : Cut) (ticks : ℕ) (fates : List Attempt) (whole : IsWhole cut ticks fates) (first : 1 ≤ number) (there : number ≤ length cut.gone) where
    pub record_once : is_gone cut.gone number ≡ false → length (commits_of number fates) ≡ 1
    record_once left =
        let all = whole.all_records number first there in
        let none = ap one_if left in
        let have = have_it (committed fates) in
        omega (arith, all, none, have)

    pub record_before : is_gone cut.gone number ≡ true → length (commits_of number fates) ≡ 0
    record_before gone =
        let all = whole.all_records number first there in
        let one = ap one_if gone in
        let have = have_it (committed fates) in
        omega (arith, all, one, have)

-- ---- batches one after another

-- the records of so many numbers from one on
records_from : {R : Type 0} (records : List R) (j m : ℕ) → flat_map (record_at records) (range_with_len (j + 1) m) ≡ take m (drop j records)
records_from records j zero = refl
records_from records j (suc m) =
    let at : j + 1 - 1 ≡ j = omega arith in
    let here : record_at records (j + 1) ≡ take 1 (drop j records) = ap (λ k. take 1 (drop k records)) at in
    let rest : flat_map (record_at records) (range_with_len (j + 1 + 1) m) ≡ take m (drop (j + 1) records) = records_from records (j + 1) m in
    let next : drop (j + 1) records ≡ drop 1 (drop j records) = sym (drop-drop 1 j records) in
    let more : suc m ≡ 1 + m = omega arith in
    ap₂ (λ xs ys. xs ++ ys) here (rest ∙ ap (take m) next)
    ∙ sym (ap (λ k. take k (drop j records)) more ∙ take-add 1 m (drop j records))

-- as many as there are, or more
take_enough : {R : Type 0} (many size : ℕ) (xs : List R) → many ≡ min size (length xs) → take many xs ≡ take size xs
take_enough many size xs is =
    elim (cases_lt (length xs) size) [
      | inl few ↦ take_all many xs (omega (arith, is, few)) ∙ sym (take_all size xs (omega (arith, few)))
      | inr enough ↦ ap (λ k. take k xs) (omega (arith, is, enough))
    ]

-- the records of a batch
batch_in : {R : Type 0} (records : List R) (size txid : ℕ) → 1 ≤ txid → records_in records (batch_spans (length records) size txid) ≡ take size (drop ((txid - 1) * size) records)
batch_in records size txid first =
    ap (flat_map (record_at records)) (runs_records 0 (batch_numbers (length records) size txid) (batch_rises (length records) size txid))
    ∙ by ((txid - 1) * size) (txid * size) (next_end size txid first)
  where
    by : (before end : ℕ) → end ≡ before + size
        → flat_map (record_at records) (range_with_len (before + 1) (min end (length records) + 1 - (before + 1))) ≡ take size (drop before records)
    by before end next =
        records_from records before (min end (length records) + 1 - (before + 1))
        ∙ take_enough (min end (length records) + 1 - (before + 1)) size (drop before records) (let l = length-drop before records in omega (arith, next, l))

-- batches after a start are the records after it
pub batches_in : {R : Type 0} (records : List R) (size start count : ℕ)
    → flat_map (records_in records) (map (batch_spans (length records) size) (range_with_len (start + 1) count)) ≡ take (count * size) (drop (start * size) records)
batches_in records size start zero = let none : 0 * size ≡ 0 = omega arith in sym (ap (λ k. take k (drop (start * size) records)) none)
batches_in records size start (suc count) =
    let at : start + 1 - 1 ≡ start = omega arith in
    let here : records_in records (batch_spans (length records) size (start + 1)) ≡ take size (drop (start * size) records) =
    batch_in records size (start + 1) (omega arith) ∙ ap (λ k. take size (drop (k * size) records)) at in
    let next : drop ((start + 1) * size) records ≡ drop size (drop (start * size) records) =
    ap (λ k. drop k records) (let product : (start + 1) * size ≡ start * size + size = omega arith in product) ∙ sym (drop-drop size (start * size) records) in
    let more : suc count * size ≡ size + count * size = omega arith in
    ap₂ (λ xs ys. xs ++ ys) here (batches_in records size (start + 1) count ∙ ap (take (count * size)) next)
    ∙ sym (ap (λ k. take k (drop (start * size) records)) more ∙ take-add size (count * size) (drop (start * size) records))

-- no batch up to one has a record behind it
none_behind : (records size number start count : ℕ) → (start + count) * size < number → times_in (map (batch_spans records size) (range_with_len (start + 1) count)) number ≡ 0
none_behind records size number start zero behind = refl
none_behind records size number start (suc count) behind =
    let next : (start + suc count) * size ≡ (start + 1 + count) * size = ap (λ k. k * size) (let e : start + suc count ≡ start + 1 + count = omega arith in e) in
    let rest = none_behind records size number (start + 1) count (omega (arith, behind, next)) in
    by (stands_in (batch_spans records size (start + 1)) number) refl rest
  where
    by : (b : Bool) → stands_in (batch_spans records size (start + 1)) number ≡ b → times_in (map (batch_spans records size) (range_with_len (start + 1 + 1) count)) number ≡ 0
        → one_if (stands_in (batch_spans records size (start + 1)) number) + times_in (map (batch_spans records size) (range_with_len (start + 1 + 1) count)) number ≡ 0
    by false off rest = let none = ap one_if off in omega (arith, none, rest)
    by true on rest =
        let has = batch_has records size (start + 1) number (omega arith) on in
        let most = has.1 in
        let first : (start + 1) * size ≤ (start + suc count) * size = mul-le-mul_right size (let e : start + 1 ≤ start + suc count = omega arith in e) in
        absurd (omega (arith, most, first, behind))

-- ---- all records without partitions

batches_numbered : (cut : Cut) (cs : List Attempt) → AllByRecursion (λ (a : Attempt). a.spans ≡ batch_spans (length cut.gone) cut.size a.root.txid) cs
    → map (λ (a : Attempt). a.spans) cs ≡ map (batch_spans (length cut.gone) cut.size) (map (λ (a : Attempt). a.root.txid) cs)
batches_numbered cut [] all = refl
batches_numbered cut (c ∷ cs) all = ap₂ (λ x xs. x ∷ xs) all.0 (batches_numbered cut cs all.1)

some_of : (P : Attempt → Type 0) (fates : List Attempt) → AllByRecursion P fates → AllByRecursion P (committed fates)
some_of P [] all = tt
some_of P (a ∷ fates) all = by (is_committed a.end) (some_of P fates all.1)
  where
    by : (b : Bool) → AllByRecursion P (committed fates) → AllByRecursion P (cond b (a ∷ committed fates) (committed fates))
    by true rest = (all.0, rest)
    by false rest = rest

module _ (cut : Cut) (ticks : ℕ) (fates : List Attempt) (start : IsStart cut) (none : cut.partitions ≡ 0) (whole : IsWhole cut ticks fates) where
  abbrev count : ℕ
  count = length (committed_txids fates)

  numbered : (xs : List Attempt) → AllByRecursion (λ (a : Attempt). HasBatch cut a.root.txid a.spans) xs
      → AllByRecursion (λ (a : Attempt). a.spans ≡ batch_spans (length cut.gone) cut.size a.root.txid) xs
  numbered [] all = tt
  numbered (x ∷ xs) all = ((all.0.numbered none).1, numbered xs all.1)

  its_batches : committed_batches fates ≡ map (batch_spans (length cut.gone) cut.size) (range_with_len (cut.start + 1) count)
  its_batches =
      batches_numbered cut (committed fates) (numbered (committed fates) (some_of (λ (a : Attempt). HasBatch cut a.root.txid a.spans) fates whole.once.batches))
      ∙ ap (map (batch_spans (length cut.gone) cut.size)) whole.once.in_order

  enough : length cut.gone ≤ (cut.start + count) * cut.size
  enough =
      elim (cases_lt ((cut.start + count) * cut.size) (length cut.gone)) [
        | inl behind ↦
            let number = (cut.start + count) * cut.size + 1 in
            let all = whole.all_records number (omega arith) (omega (arith, behind)) in
            let early : cut.start * cut.size ≤ (cut.start + count) * cut.size = mul-le-mul_right cut.size (let e : cut.start ≤ cut.start + count = omega arith in e) in
            let off : nat_le number (cut.start * cut.size) ≡ false = grind (arith, nat_tests, early) in
            let left = ap one_if (start.batches none number (omega arith) (omega (arith, behind)) ∙ off) in
            let times = ap (λ xs. times_in xs number) its_batches ∙ none_behind (length cut.gone) cut.size number cut.start count (omega arith) in
            absurd (omega (arith, all, left, times))
        | inr all ↦ all
      ]

  pub records_after : committed_records cut.records fates ≡ drop (cut.start * cut.size) cut.records
  records_after =
      ap (flat_map (records_in cut.records)) (its_batches ∙ ap (λ n. map (batch_spans n cut.size) (range_with_len (cut.start + 1) count)) start.marks)
      ∙ batches_in cut.records cut.size cut.start count
      ∙ take_all (count * cut.size) (drop (cut.start * cut.size) cut.records)
      (let l = length-drop (cut.start * cut.size) cut.records in let m = start.marks in let e = enough in let p : (cut.start + count) * cut.size ≡ cut.start * cut.size + count * cut.size = omega arith in
      omega (arith, l, m, e, p))
