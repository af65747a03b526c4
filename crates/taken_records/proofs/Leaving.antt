-- Where no record is left.
use Rattle.std.proofs.Common.{◌≡◌, ℕ, zero, suc, ◌+◌, ◌-◌, ◌%◌, ◌^◌, ◌<◌, ◌≤◌, ◌==◌, ◌&&◌, min, Bool, true, false, not, cond, List, [], ◌∷◌, length, Contains, slice_index_or, refl, sym, ap, ◌∙◌, arith}
use Rattle.std.specs.List.{filter, range_with_len}
use Rattle.std.proofs.Math.Nat.{zero-div}
use Rattle.std.proofs.lemmas.List.{length-take}
use Rattle.std.proofs.lemmas.List.Sums.{sum_by-cons}
use Rattle.record_spans.specs.declared.span.Span.{Span}
use Rattle.record_offers.specs.Offers.{first_free, free_records, is_free, is_gone, is_shut, left_in}
use Rattle.taken_records.specs.Taken.{AreTaken, one_if, times_in}
use Rattle.taken_records.proofs.Fronting.{passes_has}

left_cons : (mark : Bool) (marks : List Bool) → left_in (mark ∷ marks) ≡ cond (not mark) 1 0 + left_in marks
left_cons mark marks = sum_by-cons (λ b. cond (not b) 1 0) mark marks

-- where none is left, each is gone
pub none_left : (gone : List Bool) → left_in gone ≡ 0 → (i : ℕ) → i < length gone → slice_index_or gone i true ≡ true
none_left [] none i within = absurd (omega arith)
none_left (mark ∷ gone) none zero within = by mark refl
  where
    by : (b : Bool) → mark ≡ b → mark ≡ true
    by true is = is
    by false is = let more = left_cons mark gone ∙ ap (λ b. cond (not b) 1 0 + left_in gone) is in absurd (omega (arith, none, more))
none_left (mark ∷ gone) none (suc i) within = none_left gone (by mark (left_cons mark gone)) i (omega arith)
  where
    by : (b : Bool) → left_in (mark ∷ gone) ≡ cond (not b) 1 0 + left_in gone → left_in gone ≡ 0
    by b is = omega (arith, none, is)

-- where one is left, there is one that is not gone
pub some_mark_left : (gone : List Bool) → 0 < left_in gone → (i : ℕ) × (i < length gone) × (slice_index_or gone i true ≡ false)
some_mark_left [] some = absurd (omega (arith, some))
some_mark_left (mark ∷ gone) some = by mark refl (some_mark_left gone)
  where
    by : (b : Bool) → mark ≡ b → (0 < left_in gone → (i : ℕ) × (i < length gone) × (slice_index_or gone i true ≡ false))
        → (i : ℕ) × (i < suc (length gone)) × (slice_index_or (mark ∷ gone) i true ≡ false)
    by false is more = (0, omega arith, is)
    by true is more =
        let fewer = left_cons mark gone ∙ ap (λ b. cond (not b) 1 0 + left_in gone) is in
        let rest = more (omega (arith, some, fewer)) in
        let within = rest.1 in
        (suc rest.0, omega (arith, within), rest.2)

pub all_taken : (began gone : List Bool) (size : ℕ) (taken : List (List Span)) (n : ℕ) → AreTaken began gone size taken → left_in gone ≡ 0 → 1 ≤ n → n ≤ length began
    → one_if (is_gone began n) + times_in taken n ≡ 1
all_taken began gone size taken n are none first last =
    let marks = are.marks in
    let is = none_left gone none (n - 1) (omega (arith, first, last, marks)) in
    sym (are.once n first last) ∙ ap one_if is

none_shut : (q : ℕ) → is_shut 0 q ≡ false
none_shut q = ap (λ k. k % 2 == 1) (zero-div (2 ^ q))

has_some : (numbers : List ℕ) (n : ℕ) → Contains numbers n → 1 ≤ length numbers
has_some numbers n has = let below = has.1 in omega (arith, below)

pub some_offered : (size partitions : ℕ) (gone : List Bool) → 0 < size → 0 < left_in gone → 1 ≤ length (first_free size partitions 0 gone)
unfolding free_records
some_offered size partitions gone some left =
    let one = some_mark_left gone left in
    let i = one.0 in
    let within = one.1 in
    let at : i + 1 - 1 ≡ i = omega arith in
    let free : is_free partitions 0 gone (i + 1) ≡ true =
    rw (ap (λ k. slice_index_or gone k true) at ∙ one.2, none_shut ((i + 1 - 1) % partitions)) refl in
    let many = has_some (filter (is_free partitions 0 gone) (range_with_len 1 (length gone))) (i + 1)
    (passes_has (is_free partitions 0 gone) 1 (length gone) (i + 1) (omega arith) (omega (arith, within)) free) in
    let len = length-take size (filter (is_free partitions 0 gone) (range_with_len 1 (length gone))) in
    omega (arith, many, len, some)

-- ---- how many are offered

same_passes : (p q : ℕ → Bool) (from count : ℕ) → ((n : ℕ) → from ≤ n → p n ≡ q n) → filter p (range_with_len from count) ≡ filter q (range_with_len from count)
same_passes p q from zero same = refl
same_passes p q from (suc count) same = ap (λ (b : Bool). cond b (from ∷ filter p (range_with_len (from + 1) count)) (filter p (range_with_len (from + 1) count))) (same from (omega arith))
    ∙ ap (λ (ns : List ℕ). cond (q from) (from ∷ ns) ns) (same_passes p q (from + 1) count (λ n least. same n (omega (arith, least))))

left_numbers : (from : ℕ) (gone : List Bool) → length (filter (λ n. not (slice_index_or gone (n - from) true)) (range_with_len from (length gone))) ≡ left_in gone
left_numbers from [] = refl
left_numbers from (mark ∷ gone) = by mark refl (left_numbers (from + 1) gone) ∙ sym (left_cons mark gone)
  where
    others : List ℕ
    others = filter (λ n. not (slice_index_or (mark ∷ gone) (n - from) true)) (range_with_len (from + 1) (length gone))

    later : others ≡ filter (λ n. not (slice_index_or gone (n - (from + 1)) true)) (range_with_len (from + 1) (length gone))
    later =
        same_passes (λ n. not (slice_index_or (mark ∷ gone) (n - from) true)) (λ n. not (slice_index_or gone (n - (from + 1)) true)) (from + 1) (length gone)
        (λ n least. let at : n - from ≡ suc (n - (from + 1)) = omega (arith, least) in ap (λ (i : ℕ). not (slice_index_or (mark ∷ gone) i true)) at)

    here : (b : Bool) → mark ≡ b → not (slice_index_or (mark ∷ gone) (from - from) true) ≡ not b
    here b is = let at : from - from ≡ 0 = omega arith in ap (λ (i : ℕ). not (slice_index_or (mark ∷ gone) i true)) at ∙ ap not is

    by : (b : Bool) → mark ≡ b → length (filter (λ n. not (slice_index_or gone (n - (from + 1)) true)) (range_with_len (from + 1) (length gone))) ≡ left_in gone
        → length (cond (not (slice_index_or (mark ∷ gone) (from - from) true)) (from ∷ others) others) ≡ cond (not mark) 1 0 + left_in gone
    by true is rest =
        let all = ap length later ∙ rest in
        ap (λ (c : Bool). length (cond c (from ∷ others) others)) (here true is) ∙ omega (arith, all)
        ∙ ap (λ (c : Bool). cond (not c) 1 0 + left_in gone) (sym is)
    by false is rest =
        let all = ap length later ∙ rest in
        ap (λ (c : Bool). length (cond c (from ∷ others) others)) (here false is) ∙ omega (arith, all)
        ∙ ap (λ (c : Bool). cond (not c) 1 0 + left_in gone) (sym is)

pub full_offered : (size partitions : ℕ) (gone : List Bool) → length (first_free size partitions 0 gone) ≡ min size (left_in gone)
unfolding free_records
full_offered size partitions gone =
    length-take size (filter (is_free partitions 0 gone) (range_with_len 1 (length gone)))
    ∙ ap (λ (ns : List ℕ). min size (length ns))
    (same_passes (is_free partitions 0 gone) (λ n. not (slice_index_or gone (n - 1) true)) 1 (length gone)
    (λ n least. ap (λ (b : Bool). not (is_gone gone n) && not b) (none_shut ((n - 1) % partitions)) ∙ and_yes (not (is_gone gone n))))
    ∙ ap (min size) (left_numbers 1 gone)
  where
    and_yes : (b : Bool) → (b && true) ≡ b
    and_yes true = refl
    and_yes false = refl
