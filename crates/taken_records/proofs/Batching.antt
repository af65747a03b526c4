-- Batches of a spout without partitions.
use Rattle.std.proofs.Common.{◌≡◌, ◌≢◌, ℕ, zero, suc, ◌+◌, ◌-◌, ◌*◌, ◌/◌, ◌<◌, ◌≤◌, inl, inr, Bool, true, false, List, [], ◌∷◌, length, map, slice_index_or, true≢false, refl, sym, ap, subst, ◌∙◌, arith}
use Rattle.std.specs.Prelude.{min, nat_le}
use Rattle.std.specs.List.{AllByRecursion, Contains, range_with_len}
use Rattle.std.proofs.Math.Nat.{mul-le-mul_right}
use Rattle.std.proofs.lemmas.Bool.{cases_eq, cases_lt}
use Rattle.std.proofs.lemmas.Bool.Decides.{nat_tests}
use Rattle.std.proofs.lemmas.Nat.{div-add-mod', mod_below}
use Rattle.std.proofs.lemmas.List.FromFn.{get_or-range_with_len, length-range_with_len}
use Rattle.record_spans.specs.Spans.{stands_in}
use Rattle.record_spans.proofs.RunLemmas.{stands_then, then_stands}
use Rattle.record_offers.specs.Offers.{batch_count, batch_numbers, first_of, is_gone, last_of, left_in}
use Rattle.record_offers.proofs.BatchLemmas.{enough, some_left}
use Rattle.taken_records.specs.Taken.{AreTaken, batch_spans, one_if, times_in}
use Rattle.taken_records.proofs.Leaving.{none_left, some_mark_left}
use Rattle.taken_records.proofs.Running.{batch_rises, next_end, runs_records}

-- ---- which records a batch has

of_range : (a k n : ℕ) → Contains (range_with_len a k) n → (a ≤ n) × (n < a + k)
of_range a k n has =
    let len = length-range_with_len a k in
    let below = has.1 in
    let place = sym (get_or-range_with_len a k has.0 n (omega (arith, below, len))) ∙ has.2 in
    (omega (arith, place), omega (arith, place, below, len))

in_range : (a k n : ℕ) → a ≤ n → n < a + k → Contains (range_with_len a k) n
in_range a k n least most =
    let len = length-range_with_len a k in
    let place : a + (n - a) ≡ n = omega (arith, least) in
    (n - a, omega (arith, least, most, len), get_or-range_with_len a k (n - a) n (omega (arith, least, most)) ∙ place)

pub batch_has : (records size txid n : ℕ) → 1 ≤ txid → stands_in (batch_spans records size txid) n ≡ true
    → ((txid - 1) * size < n) × (n ≤ txid * size) × (n ≤ records)
batch_has records size txid n first is =
    by ((txid - 1) * size) (txid * size) (next_end size txid first)
    (of_range (first_of size txid) (last_of records size txid + 1 - first_of size txid) n
    (subst (λ ns. Contains ns n) (runs_records 0 (batch_numbers records size txid) (batch_rises records size txid))
    (stands_then (batch_spans records size txid) n is)))
  where
    by : (before end : ℕ) → end ≡ before + size → (before + 1 ≤ n) × (n < before + 1 + (min end records + 1 - (before + 1)))
        → (before < n) × (n ≤ end) × (n ≤ records)
    by before end next has =
        let low = has.0 in
        let high = has.1 in
        (omega (arith, low), omega (arith, low, high), omega (arith, low, high))

pub has_batch : (records size txid n : ℕ) → 1 ≤ txid → (txid - 1) * size < n → n ≤ txid * size → n ≤ records
    → stands_in (batch_spans records size txid) n ≡ true
has_batch records size txid n first low high within =
    then_stands (batch_spans records size txid) n
    (subst (λ ns. Contains ns n) (sym (runs_records 0 (batch_numbers records size txid) (batch_rises records size txid)))
    (by ((txid - 1) * size) (txid * size) low high))
  where
    by : (before end : ℕ) → before < n → n ≤ end → Contains (range_with_len (before + 1) (min end records + 1 - (before + 1))) n
    by before end low high = in_range (before + 1) (min end records + 1 - (before + 1)) n (omega (arith, low)) (omega (arith, low, high, within))

-- batches of two transactions have no record in common
pub one_batch_has : (records size a b n : ℕ) → 1 ≤ a → 1 ≤ b → stands_in (batch_spans records size a) n ≡ true
    → stands_in (batch_spans records size b) n ≡ true → a ≡ b
one_batch_has records size a b n first_a first_b in_a in_b =
    let x = batch_has records size a n first_a in_a in
    let y = batch_has records size b n first_b in_b in
    let xa = x.0 in
    let xb = x.1 in
    let ya = y.0 in
    let yb = y.1 in
    elim (cases_lt a b) [
      | inl less ↦
          let up : a * size ≤ (b - 1) * size = mul-le-mul_right size (omega (arith, less)) in
          absurd (omega (arith, xb, ya, up))
      | inr not_less ↦
          elim (cases_lt b a) [
            | inl more ↦
                let up : b * size ≤ (a - 1) * size = mul-le-mul_right size (omega (arith, more)) in
                absurd (omega (arith, yb, xa, up))
            | inr not_more ↦ omega (arith, not_less, not_more)
          ]
    ]

-- ---- batches that are not taken are left

none_here : (b : Bool) → (b ≡ true → ⊥) → one_if b ≡ 0
none_here true never = absurd (never refl)
none_here false never = refl

times_none : (records size txid n : ℕ) (txids : List ℕ) → 1 ≤ txid → AllByRecursion (λ (k : ℕ). (1 ≤ k) × (k ≢ txid)) txids
    → stands_in (batch_spans records size txid) n ≡ true → times_in (map (batch_spans records size) txids) n ≡ 0
times_none records size txid n [] first others is = refl
times_none records size txid n (k ∷ txids) first others is =
    let here = none_here (stands_in (batch_spans records size k) n) (λ has. others.0.1 (one_batch_has records size k txid n others.0.0 first has is)) in
    let rest = times_none records size txid n txids first others.1 is in
    omega (arith, here, rest)

pub other_batch_left : (began gone : List Bool) (size start txid n : ℕ) (txids : List ℕ)
    → ((k : ℕ) → 1 ≤ k → k ≤ length began → is_gone began k ≡ nat_le k (start * size))
    → AreTaken began gone size (map (batch_spans (length began) size) txids)
    → start < txid → AllByRecursion (λ (k : ℕ). (1 ≤ k) × (k ≢ txid)) txids
    → stands_in (batch_spans (length began) size txid) n ≡ true → is_gone gone n ≡ false
other_batch_left began gone size start txid n txids at_first taken later others is =
    let has = batch_has (length began) size txid n (omega (arith, later)) is in
    let low = has.0 in
    let within = has.2 in
    let up : start * size ≤ (txid - 1) * size = mul-le-mul_right size (omega (arith, later)) in
    let above : nat_le n (start * size) ≡ false = grind (arith, nat_tests, low, up) in
    let none = times_none (length began) size txid n txids (omega (arith, later)) others is in
    let equal = taken.once n (omega (arith, low)) within in
    let fresh : one_if (is_gone began n) ≡ 0 = ap one_if (at_first n (omega (arith, low)) within ∙ above) in
    no (is_gone gone n) (omega (arith, equal, fresh, none))
  where
    no : (b : Bool) → one_if b ≡ 0 → b ≡ false
    no true is_none = absurd (omega (arith, is_none))
    no false is_none = refl

-- ---- where all batches are taken

-- the transaction whose batch has a record
batch_of : (size n : ℕ) → 0 < size → 1 ≤ n → (txid : ℕ) × (1 ≤ txid) × ((txid - 1) * size < n) × (n ≤ txid * size)
batch_of size n some first =
    let whole = div-add-mod' (n - 1) size in
    let rest = mod_below (n - 1) size some in
    let next = next_end size ((n - 1) / size + 1) (omega arith) in
    let same : (n - 1) / size + 1 - 1 ≡ (n - 1) / size = omega arith in
    let low : ((n - 1) / size + 1 - 1) * size ≡ (n - 1) / size * size = ap (λ k. k * size) same in
    ((n - 1) / size + 1, omega arith, omega (arith, whole, low, first), omega (arith, whole, rest, next, low, first))

some_here : (b : Bool) → b ≡ true → one_if b ≡ 1
some_here b is = ap one_if is

times_some : (records size txid n from count : ℕ) → from ≤ txid → txid < from + count → stands_in (batch_spans records size txid) n ≡ true
    → 1 ≤ times_in (map (batch_spans records size) (range_with_len from count)) n
times_some records size txid n from zero least most is = absurd (omega (arith, least, most))
times_some records size txid n from (suc count) least most is =
    elim (cases_eq from txid) [
      | inl e ↦ let here = some_here (stands_in (batch_spans records size from) n) (ap (λ k. stands_in (batch_spans records size k) n) e ∙ is) in omega (arith, here)
      | inr other ↦ let rest = times_some records size txid n (from + 1) count (omega (arith, least, other)) (omega (arith, most)) is in omega (arith, rest)
    ]

all_marked : (gone : List Bool) → ((n : ℕ) → 1 ≤ n → n ≤ length gone → is_gone gone n ≡ true) → left_in gone ≡ 0
all_marked gone all =
    elim (cases_lt 0 (left_in gone)) [
      | inl left ↦
          let one = some_mark_left gone left in
          let within = one.1 in
          let at : one.0 + 1 - 1 ≡ one.0 = omega arith in
          absurd (true≢false (sym (all (one.0 + 1) (omega arith) (omega (arith, within))) ∙ ap (λ k. slice_index_or gone k true) at ∙ one.2))
      | inr none ↦ omega (arith, none)
    ]

module _ (began gone : List Bool) (size start count : ℕ) (some : 0 < size)
    (at_first : (k : ℕ) → 1 ≤ k → k ≤ length began → is_gone began k ≡ nat_le k (start * size))
    (taken : AreTaken began gone size (map (batch_spans (length began) size) (range_with_len (start + 1) count))) where
  pub all_batches_taken : batch_count (length began) size ≤ start + count → left_in gone ≡ 0
  all_batches_taken enough_ = all_marked gone (λ n first last. let marks = taken.marks in gone_at n first (omega (arith, last, marks)))
    where
      yes_gone : (b : Bool) → 1 ≤ one_if b → b ≡ true
      yes_gone true is = refl
      yes_gone false is = absurd (omega (arith, is))

      gone_at : (n : ℕ) → 1 ≤ n → n ≤ length began → is_gone gone n ≡ true
      gone_at n first last =
          let equal = taken.once n first last in
          elim (cases_lt (start * size) n) [
            | inl above ↦
                let b = batch_of size n some first in
                let b_first = b.1 in
                let b_low = b.2 in
                let b_high = b.3 in
                let all = enough (length began) size some in
                yes_gone (is_gone gone n) (let t = times_some (length began) size b.0 n (start + 1) count (late b.0 b_high above) (early b.0 b_low all last) (has_batch (length began) size b.0 n b_first b_low b_high last) in omega (arith, equal, t))
            | inr within ↦
                let yes : nat_le n (start * size) ≡ true = grind (arith, nat_tests, within) in
                let old = some_here (is_gone began n) (at_first n first last ∙ yes) in
                yes_gone (is_gone gone n) (omega (arith, equal, old))
          ]
        where
          late : (txid : ℕ) → n ≤ txid * size → start * size < n → start + 1 ≤ txid
          late txid high above =
              elim (cases_lt start txid) [
                | inl less ↦ omega (arith, less)
                | inr not_less ↦ let up : txid * size ≤ start * size = mul-le-mul_right size not_less in absurd (omega (arith, high, above, up))
              ]

          early : (txid : ℕ) → (txid - 1) * size < n → length began ≤ batch_count (length began) size * size → n ≤ length began → txid < start + 1 + count
          early txid low all within =
              elim (cases_lt txid (start + 1 + count)) [
                | inl less ↦ less
                | inr not_less ↦
                    let up : batch_count (length began) size * size ≤ (txid - 1) * size = mul-le-mul_right size (omega (arith, not_less, enough_)) in
                    absurd (omega (arith, low, all, within, up))
              ]

  pub taken_all_batches : left_in gone ≡ 0 → batch_count (length began) size ≤ start + count
  taken_all_batches none =
      elim (cases_lt (start + count) (batch_count (length began) size)) [
        | inl fewer ↦
            let txid = start + count + 1 in
            let there = some_left (length began) size txid some (omega arith) (omega (arith, fewer)) in
            let same : (txid - 1) * size ≡ (start + count) * size = ap (λ k. k * size) (omega arith) in
            let n = (txid - 1) * size + 1 in
            let next = next_end size txid (omega arith) in
            let is = has_batch (length began) size txid n (omega arith) (omega arith) (omega (arith, next, some)) (omega (arith, there)) in
            let marks = taken.marks in
            let left = other_batch_left began gone size start txid n (range_with_len (start + 1) count) at_first taken (omega arith)
            (range_others (start + 1) count txid (omega arith) (omega arith)) is in
            absurd (true≢false (sym (none_left gone none (n - 1) (omega (arith, there, marks))) ∙ left))
        | inr enough_ ↦ enough_
      ]
    where
      range_others : (from k txid : ℕ) → 1 ≤ from → from + k ≤ txid → AllByRecursion (λ (j : ℕ). (1 ≤ j) × (j ≢ txid)) (range_with_len from k)
      range_others from zero txid first below = tt
      range_others from (suc k) txid first below = ((first, λ e. omega (arith, e, below)), range_others (from + 1) k txid (omega arith) (omega (arith, below)))
