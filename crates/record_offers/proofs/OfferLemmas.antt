-- Which records may be offered.
use Rattle.std.proofs.Common.{◌≡◌, ℕ, zero, suc, ◌+◌, ◌-◌, ◌%◌, ◌<◌, ◌≤◌, ◌⊎◌, inl, inr, Bool, true, false, not, ◌&&◌, cond, List, [], ◌∷◌, ◌++◌, length, take, drop, Contains, get_or, slice_index, slice_index_or, refl, sym, ap, subst, ◌∙◌, add-one, arith}
use Rattle.std.specs.List.{filter, range_with_len}
use Rattle.std.proofs.Math.Seq.{take-append_seam}
use Rattle.std.proofs.lemmas.List.{append-nil, length-take, take-append-drop, take_all}
use Rattle.std.proofs.lemmas.List.Elements.{Contains-append_cases, Contains-append_left, filter-append}
use Rattle.record_spans.proofs.SpanLemmas.{range_append, range_more}
use Rattle.record_offers.specs.Marks.{AreLow}
use Rattle.record_offers.specs.Offers.{first_free, free_records, is_free, is_shut}

pub filter_none : (p : ℕ → Bool) (a n : ℕ) → ((i : ℕ) → i < n → p (a + i) ≡ false) → filter p (range_with_len a n) ≡ []
filter_none p a zero none = refl
filter_none p a (suc n) none =
    let here : a + 0 ≡ a = omega arith in
    let first : p a ≡ false = ap p (sym here) ∙ none 0 (omega arith) in
    let later = filter_none p (a + 1) n (λ i within. let at : a + 1 + i ≡ a + suc i = omega arith in ap p at ∙ none (suc i) (omega arith)) in
    rw (first, later) refl

-- ---- offers

pub offer_start : (partitions shut start : ℕ) (low : List ℕ) (gone : List Bool) → partitions ≡ length low → 0 < partitions → start ≤ length gone
    → ((q : ℕ) → q < length low → is_shut shut q ≡ false → start ≤ slice_index low q)
    → AreLow partitions low gone
    → filter (is_free partitions shut gone) (range_with_len 1 start) ≡ []
offer_start partitions shut start low gone many some within least are_low =
    filter_none (is_free partitions shut gone) 1 start (λ i below.
    let at : 1 + i - 1 ≡ i = omega arith in
    ap (λ j. not (slice_index_or gone j true) && not (is_shut shut (j % partitions))) at
    ∙ by_partition i (is_shut shut (i % partitions)) refl below)
  where
    gone_then : (b : Bool) (c : Bool) → b ≡ true → (not b && c) ≡ false
    gone_then b c is = rw is refl

    shut_then : (b : Bool) (c : Bool) → c ≡ true → (b && not c) ≡ false
    shut_then true c is = rw is refl
    shut_then false c is = refl

    by_partition : (i : ℕ) (b : Bool) → is_shut shut (i % partitions) ≡ b → i < start → (not (slice_index_or gone i true) && not (is_shut shut (i % partitions))) ≡ false
    by_partition i true is below = shut_then (not (slice_index_or gone i true)) (is_shut shut (i % partitions)) is
    by_partition i false is below =
        let q : i % partitions < length low = omega (arith, many, some) in
        let far = least (i % partitions) q is in
        gone_then (slice_index_or gone i true) (not (is_shut shut (i % partitions))) (are_low i (omega arith) (omega arith))

pub filter_next : (p : ℕ → Bool) (at : ℕ) → filter p (range_with_len 1 (at + 1)) ≡ filter p (range_with_len 1 at) ++ cond (p (at + 1)) ((at + 1) ∷ []) []
filter_next p at =
    let last : 1 + at ≡ at + 1 = omega arith in
    ap (λ n. filter p (range_with_len 1 n)) (add-one at) ∙ ap (filter p) (range_more 1 at)
    ∙ filter-append p (range_with_len 1 at) ((1 + at) ∷ [])
    ∙ ap (λ (n : ℕ). filter p (range_with_len 1 at) ++ filter p (n ∷ [])) last

pub next_taken : (p : ℕ → Bool) (at : ℕ) (old new : List ℕ) → old ≡ filter p (range_with_len 1 at) → p (at + 1) ≡ true → new ≡ old ++ (at + 1) ∷ []
    → new ≡ filter p (range_with_len 1 (at + 1))
next_taken p at old new was free is = is ∙ ap (λ xs. xs ++ (at + 1) ∷ []) was ∙ sym (filter_next p at ∙ rw free refl)

pub next_left : (p : ℕ → Bool) (at : ℕ) (old : List ℕ) → old ≡ filter p (range_with_len 1 at) → p (at + 1) ≡ false → old ≡ filter p (range_with_len 1 (at + 1))
next_left p at old was free = was ∙ sym (filter_next p at ∙ rw free (append-nil (filter p (range_with_len 1 at))))

pub offer_end : (p : ℕ → Bool) (size at n : ℕ) → at ≤ n → length (filter p (range_with_len 1 at)) ≤ size
    → (n ≤ at) ⊎ (size ≤ length (filter p (range_with_len 1 at)))
    → take size (filter p (range_with_len 1 n)) ≡ filter p (range_with_len 1 at)
offer_end p size at n within few done =
    elim done [
      | inl all ↦
          let same : n ≡ at = omega arith in
          ap (λ m. take size (filter p (range_with_len 1 m))) same ∙ take_all size (filter p (range_with_len 1 at)) few
      | inr full ↦
          let taken = filter p (range_with_len 1 at) in
          let rest = filter p (range_with_len (1 + at) (n - at)) in
          let split : n ≡ at + (n - at) = omega arith in
          let exact : size ≡ length taken = omega arith in
          ap (λ m. take size (filter p (range_with_len 1 m))) split
          ∙ ap (λ ns. take size (filter p ns)) (range_append 1 at (n - at))
          ∙ ap (take size) (filter-append p (range_with_len 1 at) (range_with_len (1 + at) (n - at)))
          ∙ ap (λ k. take k (taken ++ rest)) exact
          ∙ take-append_seam taken rest
    ]

-- ---- what is offered may be offered

taken_has : (size : ℕ) (ns : List ℕ) (n : ℕ) → Contains (take size ns) n → Contains ns n
taken_has size ns n has = subst (λ xs. Contains xs n) (take-append-drop size ns) (Contains-append_left (take size ns) (drop size ns) n has)

pub filtered_has : (p : ℕ → Bool) (a k n : ℕ) → Contains (filter p (range_with_len a k)) n → (a ≤ n) × (n < a + k) × (p n ≡ true)
filtered_has p a zero n has = absurd (let below = has.1 in omega (arith, below))
filtered_has p a (suc k) n has = by_test (p a) refl (filtered_has p (a + 1) k n)
  where
    only : (i : ℕ) → i < 1 → get_or (a ∷ []) i n ≡ n → a ≡ n
    only zero below is = is
    only (suc i) below is = absurd (omega (arith, below))

    by_test : (b : Bool) → p a ≡ b → (Contains (filter p (range_with_len (a + 1) k)) n → (a + 1 ≤ n) × (n < a + 1 + k) × (p n ≡ true)) → (a ≤ n) × (n < a + suc k) × (p n ≡ true)
    by_test true is rest =
        elim (Contains-append_cases (a ∷ []) (filter p (range_with_len (a + 1) k)) n (rw is at has)) [
          | inl here ↦ let same = only here.0 here.1 here.2 in (omega (arith, same), omega (arith, same), subst (λ m. p m ≡ true) same is)
          | inr later ↦ let r = rest later in let low = r.0 in let high = r.1 in (omega (arith, low), omega (arith, high), r.2)
        ]
    by_test false is rest = let r = rest (rw is at has) in let low = r.0 in let high = r.1 in (omega (arith, low), omega (arith, high), r.2)

pub offered_free : (size partitions shut n : ℕ) (gone : List Bool) → Contains (first_free size partitions shut gone) n
    → (1 ≤ n) × (n ≤ length gone) × (is_free partitions shut gone n ≡ true)
unfolding free_records
offered_free size partitions shut n gone has =
    let r = filtered_has (is_free partitions shut gone) 1 (length gone) n (taken_has size (filter (is_free partitions shut gone) (range_with_len 1 (length gone))) n has) in
    let low = r.0 in
    let high = r.1 in
    (low, omega (arith, high), r.2)

pub offered_few : (size partitions shut : ℕ) (gone : List Bool) → length (first_free size partitions shut gone) ≤ size
offered_few size partitions shut gone = let len = length-take size (free_records partitions shut gone) in omega (arith, len)
