-- Where offers may start.
use Rattle.std.proofs.Common.{◌≡◌, inl, inr, ℕ, zero, suc, ◌+◌, ◌-◌, ◌*◌, ◌^◌, ◌<◌, ◌≤◌, min, Bool, true, false, cond, List, length, replicate, Contains, slice_index_or, true≢false, refl, sym, ap, subst, ◌∙◌, arith}
use Rattle.std.specs.Prelude.{nat_le}
use Rattle.std.specs.List.{range_with_len}
use Rattle.std.proofs.lemmas.Bool.{cases_lt}
use Rattle.std.proofs.lemmas.Bool.Decides.{nat_tests}
use Rattle.std.proofs.lemmas.List.FromFn.{get_or-range_with_len, length-range_with_len}
use Rattle.storm_values.specs.declared.value.Value.{Value}
use Rattle.record_spans.specs.declared.span.Span.{Span}
use Rattle.record_spans.specs.Spans.{AreRunsOf, stands_in}
use Rattle.record_spans.proofs.RunLemmas.{stands_then, then_stands}
use Rattle.record_offers.specs.Offers.{AreMarked, batch_count, fresh, gone_records, is_gone}
use Rattle.record_offers.proofs.OfferLemmas.{filtered_has}
use Rattle.record_offers.specs.Starts.{IsPossible}
use Rattle.taken_records.specs.Cuts.{IsStart}
use Rattle.taken_records.specs.Taken.{marked}
use Rattle.taken_records.proofs.Fronting.{passes_has}
use Rattle.taken_records.proofs.Marking.{only_marked}

replicate_at : (n i : ℕ) → i < n → slice_index_or (replicate n false) i true ≡ false
replicate_at zero i within = absurd (omega arith)
replicate_at (suc n) zero within = refl
replicate_at (suc n) (suc i) within = replicate_at n i (omega arith)

length_replicate : (n : ℕ) → length (replicate n false) ≡ n
length_replicate zero = refl
length_replicate (suc n) = ap suc (length_replicate n)

module _ (records : List (List Value)) (size partitions txid : ℕ) (spans : List Span) (marks : List Bool) (some : 0 < size) (last : txid + length records < 2 ^ 64) (possible : IsPossible (length records) size partitions txid spans)
    (marked : AreMarked (stands_in spans) true (fresh records size partitions).gone marks) where
  len : length marks ≡ length records
  len = marked.len ∙ length_replicate (length records)

  gone_at : (n : ℕ) → 1 ≤ n → n ≤ length marks → is_gone marks n ≡ stands_in spans n
  gone_at n first last =
      let within : n - 1 < length records = omega (arith, first, last, len) in
      let there : n - 1 < length (replicate (length records) false) = (let l = length_replicate (length records) in omega (arith, within, l)) in
      let at : n - 1 + 1 ≡ n = omega (arith, first) in
      marked.each (n - 1) there ∙ ap (λ (k : ℕ). cond (stands_in spans k) true (slice_index_or (replicate (length records) false) (n - 1) true)) at
      ∙ ap (cond (stands_in spans n) true) (replicate_at (length records) (n - 1) within) ∙ same (stands_in spans n)
    where
      same : (b : Bool) → cond b true false ≡ b
      same true = refl
      same false = refl

  module _ (none : partitions ≡ 0) where
    has_then : (n : ℕ) → Contains (range_with_len 1 (min (txid * size) (length records))) n → n ≤ txid * size
    has_then n has = by (txid * size) has
      where
        by : (most : ℕ) → Contains (range_with_len 1 (min most (length records))) n → n ≤ most
        by most has =
            let l = length-range_with_len 1 (min most (length records)) in
            let below = has.1 in
            let place = sym (get_or-range_with_len 1 (min most (length records)) has.0 n (omega (arith, below, l))) ∙ has.2 in
            omega (arith, below, l, place)

    then_has : (n : ℕ) → 1 ≤ n → n ≤ txid * size → n ≤ length records → Contains (range_with_len 1 (min (txid * size) (length records))) n
    then_has n first few within = by (txid * size) few
      where
        by : (most : ℕ) → n ≤ most → Contains (range_with_len 1 (min most (length records))) n
        by most few =
            let l = length-range_with_len 1 (min most (length records)) in
            let place : 1 + (n - 1) ≡ n = omega (arith, first) in
            (n - 1, omega (arith, l, first, few, within), get_or-range_with_len 1 (min most (length records)) (n - 1) n (omega (arith, first, few, within)) ∙ place)

    stands_where : (n : ℕ) → 1 ≤ n → n ≤ length records → stands_in spans n ≡ nat_le n (txid * size)
    stands_where n first within =
        elim (cases_lt (txid * size) n) [
          | inl above ↦
              let off : nat_le n (txid * size) ≡ false = grind (arith, nat_tests, above) in
              none_above (stands_in spans n) refl above ∙ sym off
          | inr few ↦
              let on : nat_le n (txid * size) ≡ true = grind (arith, nat_tests, few) in
              then_stands spans n (subst (λ ns. Contains ns n) (sym (possible.batches none).1) (then_has n first few within)) ∙ sym on
        ]
      where
        none_above : (b : Bool) → stands_in spans n ≡ b → txid * size < n → stands_in spans n ≡ false
        none_above false is above = is
        none_above true is above =
            let few = has_then n (subst (λ ns. Contains ns n) (possible.batches none).1 (stands_then spans n is)) in
            absurd (omega (arith, few, above))

  pub start_after : IsStart (record (fresh records size partitions) { gone = marks; start = txid })
  start_after = record {
    some = some;
    marks = len;
    last = (let l = len in omega (arith, last, l));
    early = λ none. subst (λ (k : ℕ). txid ≤ batch_count k size) (sym len) (possible.batches none).0;
    batches = λ none n first last. gone_at n first last ∙ stands_where none n first (omega (arith, last, len));
    fronts = λ partitions_ i j less within same passed.
        gone_at (i + 1) (omega arith) (omega (arith, less, within))
        ∙ (possible.offers partitions_).2 i j less same (sym (gone_at (j + 1) (omega arith) (omega (arith, within))) ∙ passed);
  }

pub start_fresh : (records : List (List Value)) (size partitions : ℕ) → 0 < size → length records < 2 ^ 64 → IsStart (fresh records size partitions)
start_fresh records size partitions some last = record {
  some = some;
  marks = length_replicate (length records);
  last = (let l = length_replicate (length records) in omega (arith, last, l));
  early = λ none. omega arith;
  batches = λ none n first last. left n first last ∙ above n first;
  fronts = λ partitions_ i j less within same passed. absurd (true≢false (sym passed ∙ left (j + 1) (omega arith) (omega (arith, within))));
}
  where
    left : (n : ℕ) → 1 ≤ n → n ≤ length (replicate (length records) false) → is_gone (replicate (length records) false) n ≡ false
    left n first last = let l = length_replicate (length records) in replicate_at (length records) (n - 1) (omega (arith, first, last, l))

    above : (n : ℕ) → 1 ≤ n → false ≡ nat_le n (0 * size)
    above n first = let zero_times : 0 * size ≡ 0 = omega arith in let off : nat_le n 0 ≡ false = grind (arith, nat_tests, first) in sym (ap (nat_le n) zero_times ∙ off)

-- ---- marks as they are

-- the records that are gone, as spans, give back the marks
pub marks_by_spans : (gone : List Bool) (n : ℕ) (spans : List Span) → length gone ≡ n → AreRunsOf (gone_records gone) spans → marked true spans (replicate n false) ≡ gone
marks_by_spans gone n spans len runs =
    sym (only_marked spans true (replicate n false) gone (record {
      len = len ∙ sym (length_replicate n);
      each = λ i within. each i (let l = length_replicate n in omega (arith, within, l));
    }))
  where
    back : (i : ℕ) → i + 1 - 1 ≡ i
    back i = omega arith

    each : (i : ℕ) → i < n → slice_index_or gone i true ≡ cond (stands_in spans (i + 1)) true (slice_index_or (replicate n false) i true)
    each i within = by (stands_in spans (i + 1)) refl (is_gone gone (i + 1)) refl
      where
        here : slice_index_or gone i true ≡ is_gone gone (i + 1)
        here = sym (ap (λ k. slice_index_or gone k true) (back i))

        rest : (b : Bool) → stands_in spans (i + 1) ≡ b → cond b true (slice_index_or (replicate n false) i true) ≡ cond (stands_in spans (i + 1)) true (slice_index_or (replicate n false) i true)
        rest b is = ap (λ c. cond c true (slice_index_or (replicate n false) i true)) (sym is)

        by : (b : Bool) → stands_in spans (i + 1) ≡ b → (c : Bool) → is_gone gone (i + 1) ≡ c
            → slice_index_or gone i true ≡ cond (stands_in spans (i + 1)) true (slice_index_or (replicate n false) i true)
        by true on c is =
            let has = filtered_has (is_gone gone) 1 (length gone) (i + 1) (subst (λ ns. Contains ns (i + 1)) runs.records (stands_then spans (i + 1) on)) in
            here ∙ has.2 ∙ rest true on
        by false off true is =
            let stands = then_stands spans (i + 1) (subst (λ ns. Contains ns (i + 1)) (sym runs.records) (passes_has (is_gone gone) 1 (length gone) (i + 1) (omega arith) (omega (arith, within, len)) is)) in
            absurd (true≢false (sym stands ∙ off))
        by false off false is = here ∙ is ∙ sym (replicate_at n i within) ∙ rest false off
