-- Fronts of partitions, and what is offered after them.
use Rattle.std.proofs.Common.{◌≡◌, ◌⊎◌, inl, inr, ℕ, zero, suc, ◌+◌, ◌-◌, ◌%◌, ◌<◌, ◌≤◌, ◌==◌, ◌&&◌, ◌||◌, Bool, true, false, not, cond, List, [], ◌∷◌, ◌++◌, length, take, drop, Contains, get_or, true≢false, refl, sym, ap, subst, ◌∙◌, arith}
use Rattle.std.specs.List.{filter, range_with_len}
use Rattle.std.proofs.lemmas.Bool.Decides.{nat_tests}
use Rattle.std.proofs.lemmas.List.{take-append-drop}
use Rattle.std.proofs.lemmas.List.Elements.{Contains-append_cases, Contains-append_right}
use Rattle.record_spans.specs.declared.span.Span.{Span}
use Rattle.record_spans.specs.Spans.{stands_in}
use Rattle.record_spans.specs.Fronts.{AreFronts}
use Rattle.record_spans.proofs.RunLemmas.{stands_then, then_stands}
use Rattle.record_offers.specs.Offers.{first_free, free_records, is_free, is_gone, is_shut}
use Rattle.record_offers.proofs.OfferLemmas.{offered_free}
use Rattle.taken_records.specs.Taken.{AreTaken, IsFront, StayFronts, one_if, passed_with, runs_of, times_in}
use Rattle.taken_records.proofs.Running.{Rises, filter_rises, free_rises, range_rises, runs_records}
use Rattle.taken_records.proofs.Taking.{once_at_most}

-- ---- what has passed is gone

passed_once : (p : ℕ → Bool) (taken : List (List Span)) (n : ℕ) → one_if (p n) + times_in taken n ≤ 1
    → one_if (passed_with p taken n) ≡ one_if (p n) + times_in taken n
passed_once p [] n few = omega arith
passed_once p (spans ∷ taken) n few = by (stands_in spans n) (passed_once p taken n) few
  where
    by : (b : Bool) → (one_if (p n) + times_in taken n ≤ 1 → one_if (passed_with p taken n) ≡ one_if (p n) + times_in taken n)
        → one_if (p n) + (one_if b + times_in taken n) ≤ 1
        → one_if (b || passed_with p taken n) ≡ one_if (p n) + (one_if b + times_in taken n)
    by true rest few = omega (arith, few)
    by false rest few = let is = rest (omega (arith, few)) in omega (arith, is)

same_yes : (a b : Bool) → one_if a ≡ one_if b → a ≡ b
same_yes true true same = refl
same_yes true false same = absurd (omega (arith, same))
same_yes false true same = absurd (omega (arith, same))
same_yes false false same = refl

pub passed_gone : (began gone : List Bool) (size : ℕ) (taken : List (List Span)) (n : ℕ) → AreTaken began gone size taken → 1 ≤ n → n ≤ length began
    → passed_with (is_gone began) taken n ≡ is_gone gone n
passed_gone began gone size taken n are first last =
    same_yes (passed_with (is_gone began) taken n) (is_gone gone n)
    (passed_once (is_gone began) taken n (once_at_most began gone size taken n are first last) ∙ sym (are.once n first last))

passed_push : (p : ℕ → Bool) (taken : List (List Span)) (spans : List Span) (n : ℕ) → passed_with p (taken ++ spans ∷ []) n ≡ (stands_in spans n || passed_with p taken n)
passed_push p [] spans n = refl
passed_push p (other ∷ taken) spans n = ap (λ b. stands_in other n || b) (passed_push p taken spans n) ∙ swap (stands_in other n) (stands_in spans n) (passed_with p taken n)
  where
    swap : (a b c : Bool) → (a || (b || c)) ≡ (b || (a || c))
    swap true true c = refl
    swap true false c = refl
    swap false b c = refl

-- ---- the earlier of some batches

-- the last one, or one before it
ends_at : (xs earlier later : List (List Span)) (x : List Span) → xs ++ x ∷ [] ≡ earlier ++ later
    → (earlier ≡ xs ++ x ∷ []) ⊎ ((rest : List (List Span)) × (xs ≡ earlier ++ rest))
ends_at xs [] later x e = inr (xs, refl)
ends_at [] (y ∷ earlier) later x e = inl (one earlier (tail e) (head e))
  where
    head : x ∷ [] ≡ y ∷ (earlier ++ later) → x ≡ y
    head e = cc

    tail : x ∷ [] ≡ y ∷ (earlier ++ later) → [] ≡ earlier ++ later
    tail e = cc

    one : (zs : List (List Span)) → [] ≡ zs ++ later → x ≡ y → y ∷ zs ≡ x ∷ []
    one [] none same = ap (λ z. z ∷ []) (sym same)
    one (z ∷ zs) none same = absurd (some none)
      where
        some : [] ≡ z ∷ (zs ++ later) → ⊥
        some e = cc
ends_at (z ∷ xs) (y ∷ earlier) later x e =
    elim (ends_at xs earlier later x (tail e)) [
      | inl all ↦ inl (λ i. sym (head e) i ∷ all i)
      | inr front ↦ inr (front.0, λ i. head e i ∷ front.1 i)
    ]
  where
    head : z ∷ (xs ++ x ∷ []) ≡ y ∷ (earlier ++ later) → z ≡ y
    head e = cc

    tail : z ∷ (xs ++ x ∷ []) ≡ y ∷ (earlier ++ later) → xs ++ x ∷ [] ≡ earlier ++ later
    tail e = cc

append_more : (xs ys zs : List (List Span)) → (xs ++ ys) ++ zs ≡ xs ++ (ys ++ zs)
append_more [] ys zs = refl
append_more (x ∷ xs) ys zs = ap (λ rest. x ∷ rest) (append_more xs ys zs)

append_none : (xs : List (List Span)) → xs ++ [] ≡ xs
append_none [] = refl
append_none (x ∷ xs) = ap (λ rest. x ∷ rest) (append_none xs)

pub stay_before : (partitions records : ℕ) (passed : ℕ → Bool) (before after : List (List Span)) → StayFronts partitions records passed (before ++ after)
    → StayFronts partitions records passed before
stay_before partitions records passed before after stay earlier later is =
    stay earlier (later ++ after) (ap (λ xs. xs ++ after) is ∙ append_more earlier later after)

stay_more : (partitions records : ℕ) (passed : ℕ → Bool) (taken : List (List Span)) (spans : List Span) → StayFronts partitions records passed taken
    → IsFront partitions records (passed_with passed (taken ++ spans ∷ [])) → StayFronts partitions records passed (taken ++ spans ∷ [])
stay_more partitions records passed taken spans stay front earlier later is =
    elim (ends_at taken earlier later spans is) [
      | inl all ↦ subst (λ xs. IsFront partitions records (passed_with passed xs)) (sym all) front
      | inr before ↦ stay earlier before.0 before.1
    ]

-- ---- the first free records

rising_least : (low : ℕ) (numbers : List ℕ) (n : ℕ) → Rises low numbers → Contains numbers n → low < n
rising_least low [] n rises has = absurd (let below = has.1 in omega (arith, below))
rising_least low (m ∷ numbers) n rises has =
    let above = rises.0 in
    elim (Contains-append_cases (m ∷ []) numbers n has) [
      | inl here ↦ let same = only here.0 here.1 here.2 in omega (arith, above, same)
      | inr later ↦ let more = rising_least m numbers n rises.1 later in omega (arith, above, more)
    ]
  where
    only : (i : ℕ) → i < 1 → get_or (m ∷ []) i n ≡ n → m ≡ n
    only zero below is = is
    only (suc i) below is = absurd (omega (arith, below))

-- of rising numbers those of the front lie below the others
front_below : (low : ℕ) (front back : List ℕ) (a b : ℕ) → Rises low (front ++ back) → Contains front a → Contains back b → a < b
front_below low [] back a b rises has_a has_b = absurd (let below = has_a.1 in omega (arith, below))
front_below low (m ∷ front) back a b rises has_a has_b =
    elim (Contains-append_cases (m ∷ []) front a has_a) [
      | inl here ↦
          let same = only here.0 here.1 here.2 in
          let less = rising_least m (front ++ back) b rises.1 (Contains-append_right front back b has_b) in
          omega (arith, same, less)
      | inr later ↦ front_below m front back a b rises.1 later has_b
    ]
  where
    only : (i : ℕ) → i < 1 → get_or (m ∷ []) i a ≡ a → m ≡ a
    only zero below is = is
    only (suc i) below is = absurd (omega (arith, below))

-- with a number each lower one is among the first
pub first_has : (size low : ℕ) (numbers : List ℕ) (a b : ℕ) → Rises low numbers → Contains (take size numbers) b → Contains numbers a → a < b → Contains (take size numbers) a
first_has size low numbers a b rises has_b has_a less =
    let whole = take-append-drop size numbers in
    elim (Contains-append_cases (take size numbers) (drop size numbers) a (subst (λ ns. Contains ns a) (sym whole) has_a)) [
      | inl front ↦ front
      | inr back ↦
          let more = front_below low (take size numbers) (drop size numbers) b a (subst (Rises low) (sym whole) rises) has_b back in
          absurd (omega (arith, less, more))
    ]

-- a number that passes a test is among those of a range that do
pub passes_has : (p : ℕ → Bool) (from count n : ℕ) → from ≤ n → n < from + count → p n ≡ true → Contains (filter p (range_with_len from count)) n
passes_has p from zero n least most is = absurd (omega (arith, least, most))
passes_has p from (suc count) n least most is = by (n == from) refl (λ above. passes_has p (from + 1) count n above (omega (arith, most)) is)
  where
    more : (b : Bool) → Contains (filter p (range_with_len (from + 1) count)) n → Contains (cond b (from ∷ filter p (range_with_len (from + 1) count)) (filter p (range_with_len (from + 1) count))) n
    more true has = Contains-append_right (from ∷ []) (filter p (range_with_len (from + 1) count)) n has
    more false has = has

    head : n ≡ from → (b : Bool) → p from ≡ b → Contains (cond b (from ∷ filter p (range_with_len (from + 1) count)) (filter p (range_with_len (from + 1) count))) n
    head same true passes = (0, omega arith, sym same)
    head same false passes = absurd (true≢false (sym (ap p (sym same) ∙ is) ∙ passes))

    by : (b : Bool) → (n == from) ≡ b → (from + 1 ≤ n → Contains (filter p (range_with_len (from + 1) count)) n) → Contains (filter p (range_with_len from (suc count))) n
    by true e later = let same : n ≡ from = grind (arith, nat_tests, e) in head same (p from) refl
    by false e later =
        let other : (n ≡ from → ⊥) = λ s. grind (arith, nat_tests, e, s) in
        more (p from) (later (omega (arith, least, other)))

module _ (size partitions shut : ℕ) (gone : List Bool) where
  abbrev pub offered_now : ℕ → Bool
  offered_now n = stands_in (runs_of (first_free size partitions shut gone)) n

  has_if : (n : ℕ) → offered_now n ≡ true → Contains (first_free size partitions shut gone) n
  has_if n is =
      subst (λ ns. Contains ns n) (runs_records 0 (first_free size partitions shut gone) (free_rises size partitions shut gone))
      (stands_then (runs_of (first_free size partitions shut gone)) n is)

  if_has : (n : ℕ) → Contains (first_free size partitions shut gone) n → offered_now n ≡ true
  if_has n has =
      then_stands (runs_of (first_free size partitions shut gone)) n
      (subst (λ ns. Contains ns n) (sym (runs_records 0 (first_free size partitions shut gone) (free_rises size partitions shut gone))) has)

  both_if : (a b : Bool) → (not a && not b) ≡ true → (a ≡ false) × (b ≡ false)
  both_if true b is = absurd (true≢false (sym is))
  both_if false true is = absurd (true≢false (sym is))
  both_if false false is = (refl, refl)

  pub offered_left : (n : ℕ) → offered_now n ≡ true → is_gone gone n ≡ false
  offered_left n is = (both_if (is_gone gone n) (is_shut shut ((n - 1) % partitions)) (offered_free size partitions shut n gone (has_if n is)).2).0

  -- an earlier record of the partition of one that is offered is gone, or is offered too
  offered_before : (i j : ℕ) → i < j → i % partitions ≡ j % partitions → offered_now (j + 1) ≡ true → is_gone gone (i + 1) ≡ false → offered_now (i + 1) ≡ true
  unfolding free_records
  offered_before i j less same is left =
      let later = offered_free size partitions shut (j + 1) gone (has_if (j + 1) is) in
      let last = later.1 in
      let open_ = (both_if (is_gone gone (j + 1)) (is_shut shut ((j + 1 - 1) % partitions)) later.2).1 in
      let at_i : i + 1 - 1 ≡ i = omega arith in
      let at_j : j + 1 - 1 ≡ j = omega arith in
      let place : (i + 1 - 1) % partitions ≡ (j + 1 - 1) % partitions = ap (λ k. k % partitions) at_i ∙ same ∙ ap (λ k. k % partitions) (sym at_j) in
      let free : is_free partitions shut gone (i + 1) ≡ true = rw (left, ap (is_shut shut) place ∙ open_) refl in
      let p = is_free partitions shut gone in
      if_has (i + 1)
      (first_has size 0 (filter p (range_with_len 1 (length gone))) (i + 1) (j + 1)
      (filter_rises p 0 (range_with_len 1 (length gone)) (range_rises 0 1 (length gone) (omega arith)))
      (has_if (j + 1) is)
      (passes_has p 1 (length gone) (i + 1) (omega arith) (omega (arith, less, last)) free)
      (omega (arith, less)))

  pub front_more : (records : ℕ) → ((i j : ℕ) → i < j → j < records → i % partitions ≡ j % partitions → is_gone gone (j + 1) ≡ true → is_gone gone (i + 1) ≡ true)
      → (i j : ℕ) → i < j → j < records → i % partitions ≡ j % partitions
      → (offered_now (j + 1) || is_gone gone (j + 1)) ≡ true → (offered_now (i + 1) || is_gone gone (i + 1)) ≡ true
  front_more records front i j less within same is = by (is_gone gone (j + 1)) refl (is_gone gone (i + 1)) refl
    where
      or_yes : (b : Bool) → (b || true) ≡ true
      or_yes true = refl
      or_yes false = refl

      or_no : (b : Bool) → (b || false) ≡ true → b ≡ true
      or_no true is = refl
      or_no false is = is

      by : (b : Bool) → is_gone gone (j + 1) ≡ b → (c : Bool) → is_gone gone (i + 1) ≡ c → (offered_now (i + 1) || is_gone gone (i + 1)) ≡ true
      by b at_j true at_i = rw at_i (or_yes (offered_now (i + 1)))
      by true at_j false at_i = absurd (true≢false (sym (front i j less within same at_j) ∙ at_i))
      by false at_j false at_i =
          let offered_j = or_no (offered_now (j + 1)) (sym (ap (λ b. offered_now (j + 1) || b) at_j) ∙ is) in
          ap (λ b. b || is_gone gone (i + 1)) (offered_before i j less same offered_j at_i)

pub stay_taken : (size partitions shut : ℕ) (began gone : List Bool) (taken : List (List Span)) → AreTaken began gone size taken
    → StayFronts partitions (length began) (is_gone began) taken
    → StayFronts partitions (length began) (is_gone began) (taken ++ runs_of (first_free size partitions shut gone) ∷ [])
stay_taken size partitions shut began gone taken are stay =
    stay_more partitions (length began) (is_gone began) taken spans stay
    (λ i j less within same is.
    let last : j + 1 ≤ length began = omega (arith, within) in
    let first : i + 1 ≤ length began = omega (arith, less, within) in
    passed_push (is_gone began) taken spans (i + 1)
    ∙ ap (λ b. stands_in spans (i + 1) || b) (passed_gone began gone size taken (i + 1) are (omega arith) first)
    ∙ front_more size partitions shut gone (length began) front i j less within same
    (sym (passed_push (is_gone began) taken spans (j + 1) ∙ ap (λ b. stands_in spans (j + 1) || b) (passed_gone began gone size taken (j + 1) are (omega arith) last)) ∙ is))
  where
    spans : List Span
    spans = runs_of (first_free size partitions shut gone)

    front : (i j : ℕ) → i < j → j < length began → i % partitions ≡ j % partitions → is_gone gone (j + 1) ≡ true → is_gone gone (i + 1) ≡ true
    front i j less within same is =
        sym (passed_gone began gone size taken (i + 1) are (omega arith) (omega (arith, less, within)))
        ∙ stay taken [] (sym (append_none taken)) i j less within same (passed_gone began gone size taken (j + 1) are (omega arith) (omega (arith, within)) ∙ is)

pub stay_first : (partitions : ℕ) (began : List Bool) (spans : List Span) → AreFronts partitions spans
    → ((n : ℕ) → 1 ≤ n → n ≤ length began → is_gone began n ≡ stands_in spans n) → StayFronts partitions (length began) (is_gone began) []
stay_first partitions began spans fronts marks [] later is i j less within same passed =
    marks (i + 1) (omega arith) (omega (arith, less, within))
    ∙ fronts i j less same (sym (marks (j + 1) (omega arith) (omega (arith, within))) ∙ passed)
stay_first partitions began spans fronts marks (x ∷ earlier) later is i j less within same passed = absurd (some is)
  where
    some : [] ≡ x ∷ (earlier ++ later) → ⊥
    some e = cc
