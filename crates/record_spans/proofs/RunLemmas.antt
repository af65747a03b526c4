-- What stands in spans that are apart says which spans they are.
use Rattle.std.proofs.Common.{◌≡◌, ℕ, ◌+◌, ◌-◌, ◌<◌, ◌≤◌, ◌&&◌, ◌||◌, inl, inr, Bool, true, false, List, [], ◌∷◌, Contains, true≢false, refl, sym, ap₂, subst, ◌∙◌, arith}
use Rattle.std.specs.Prelude.{nat_le}
use Rattle.std.specs.List.{range_with_len}
use Rattle.std.proofs.lemmas.Bool.{cases_lt}
use Rattle.std.proofs.lemmas.Bool.Decides.{nat_tests}
use Rattle.std.proofs.lemmas.List.Elements.{Contains-append_cases, Contains-append_left, Contains-append_right}
use Rattle.std.proofs.lemmas.List.FromFn.{get_or-range_with_len, length-range_with_len}
use Rattle.record_spans.specs.declared.span.Span.{Span}
use Rattle.record_spans.specs.Spans.{AreApart, AreRunsOf, is_within, numbers_of, records_of, stands_in}
use Rattle.record_spans.proofs.SpanLemmas.{beyond}

-- ---- records

in_range : (a k n : ℕ) → a ≤ n → n < a + k → Contains (range_with_len a k) n
in_range a k n least most =
    let len = length-range_with_len a k in
    let place : a + (n - a) ≡ n = omega arith in
    (n - a, omega (arith, len), get_or-range_with_len a k (n - a) n (omega arith) ∙ place)

of_range : (a k n : ℕ) → Contains (range_with_len a k) n → (a ≤ n) × (n < a + k)
of_range a k n has =
    let len = length-range_with_len a k in
    let below = has.1 in
    let place = sym (get_or-range_with_len a k has.0 n (omega (arith, below, len))) ∙ has.2 in
    (omega (arith, place), omega (arith, place, below, len))

ends_of : (span : Span) (n : ℕ) → is_within span n ≡ true → (span.first ≤ n) × (n ≤ span.last)
ends_of span n is =
    elim (cases_lt n span.first) [
      | inl low ↦
          let a : nat_le span.first n ≡ false = grind (arith, nat_tests, low) in
          absurd (true≢false (sym is ∙ rw a refl))
      | inr first ↦
          let a : nat_le span.first n ≡ true = grind (arith, nat_tests, first) in
          elim (cases_lt span.last n) [
            | inl high ↦
                let b : nat_le n span.last ≡ false = grind (arith, nat_tests, high) in
                absurd (true≢false (sym is ∙ rw (a, b) refl))
            | inr last ↦ (first, last)
          ]
    ]

pub within_then : (span : Span) (n : ℕ) → span.first ≤ n → n ≤ span.last → is_within span n ≡ true
within_then span n first last =
    let a : nat_le span.first n ≡ true = grind (arith, nat_tests, first) in
    let b : nat_le n span.last ≡ true = grind (arith, nat_tests, last) in
    rw (a, b) refl

above_then : (span : Span) (n : ℕ) → span.last < n → is_within span n ≡ false
above_then span n above =
    let b : nat_le n span.last ≡ false = grind (arith, nat_tests, above) in
    rw b (none (nat_le span.first n))
  where
    none : (b : Bool) → (b && false) ≡ false
    none true = refl
    none false = refl

pub stands_then : (spans : List Span) (n : ℕ) → stands_in spans n ≡ true → Contains (records_of spans) n
stands_then [] n is = absurd (true≢false (sym is))
stands_then (span ∷ spans) n is = by_span (is_within span n) refl (stands_then spans n)
  where
    by_span : (b : Bool) → is_within span n ≡ b → (stands_in spans n ≡ true → Contains (records_of spans) n) → Contains (records_of (span ∷ spans)) n
    by_span true here rest =
        let ends = ends_of span n here in
        let first = ends.0 in
        let last = ends.1 in
        Contains-append_left (numbers_of span) (records_of spans) n (in_range span.first (span.last + 1 - span.first) n first (omega (arith, first, last)))
    by_span false other rest =
        let later : stands_in spans n ≡ true = sym (rw other refl) ∙ is in
        Contains-append_right (numbers_of span) (records_of spans) n (rest later)

pub then_stands : (spans : List Span) (n : ℕ) → Contains (records_of spans) n → stands_in spans n ≡ true
then_stands [] n has = absurd (let below = has.1 in omega (arith, below))
then_stands (span ∷ spans) n has =
    elim (Contains-append_cases (numbers_of span) (records_of spans) n has) [
      | inl here ↦
          let ends = of_range span.first (span.last + 1 - span.first) n here in
          let first = ends.0 in
          let most = ends.1 in
          rw (within_then span n first (omega (arith, first, most))) refl
      | inr later ↦ rw (then_stands spans n later) (or_true (is_within span n))
    ]
  where
    or_true : (b : Bool) → (b || true) ≡ true
    or_true true = refl
    or_true false = refl

-- ---- runs

-- two lists of spans in which the same numbers stand
abbrev pub Same : List Span → List Span → Type 0
Same a b = (n : ℕ) → stands_in a n ≡ true → stands_in b n ≡ true

first_stands : (low : ℕ) (span : Span) (spans : List Span) → AreApart low (span ∷ spans) → stands_in (span ∷ spans) span.first ≡ true
first_stands low span spans apart = let fits = apart.1 in rw (within_then span span.first (omega arith) fits) refl

-- what stands lies above the number, and from the first span on
above_first : (low : ℕ) (span : Span) (spans : List Span) (n : ℕ) → AreApart low (span ∷ spans) → stands_in (span ∷ spans) n ≡ true → span.first ≤ n
above_first low span spans n apart is =
    elim (cases_lt n span.first) [
      | inl less ↦
          let fits = apart.1 in
          let here : nat_le span.first n ≡ false = grind (arith, nat_tests, less) in
          let later = beyond (span.last + 1) spans n apart.2 (omega (arith, less, fits)) in
          absurd (true≢false (sym is ∙ rw (here, later) refl))
      | inr up ↦ up
    ]

-- the first span of one list reaches as far as that of the other
reaches_far : (low : ℕ) (s t : Span) (a b : List Span) → AreApart low (s ∷ a) → AreApart low (t ∷ b) → s.first ≡ t.first → Same (t ∷ b) (s ∷ a) → t.last ≤ s.last
reaches_far low s t a b apart_a apart_b first same =
    elim (cases_lt s.last t.last) [
      | inl short ↦
          let fits = apart_a.1 in
          let inside : stands_in (t ∷ b) (s.last + 1) ≡ true = rw (within_then t (s.last + 1) (omega (arith, fits, first)) (omega (arith, short))) refl in
          let outside : stands_in (s ∷ a) (s.last + 1) ≡ false = rw (above_then s (s.last + 1) (omega arith), beyond (s.last + 1) a (s.last + 1) apart_a.2 (omega arith)) refl in
          absurd (true≢false (sym (same (s.last + 1) inside) ∙ outside))
      | inr far ↦ far
    ]

same_rest : (low : ℕ) (s t : Span) (a b : List Span) → AreApart low (s ∷ a) → s.last ≡ t.last → Same (s ∷ a) (t ∷ b) → Same a b
same_rest low s t a b apart last same n is =
    elim (cases_lt (s.last + 1) n) [
      | inr low ↦ absurd (true≢false (sym is ∙ beyond (s.last + 1) a n apart.2 low))
      | inl high ↦
          let here : stands_in (s ∷ a) n ≡ true = rw is (or_true (is_within s n)) in
          let past : is_within t n ≡ false = above_then t n (omega (arith, high, last)) in
          sym (rw past refl) ∙ same n here
    ]
  where
    or_true : (b : Bool) → (b || true) ≡ true
    or_true true = refl
    or_true false = refl

one_span : (s t : Span) → s.first ≡ t.first → s.last ≡ t.last → s ≡ t
one_span s t first last = ap₂ (λ (a b : ℕ). record { first = a; last = b }) first last

pub same_spans : (low : ℕ) (a b : List Span) → AreApart low a → AreApart low b → Same a b → Same b a → a ≡ b
same_spans low [] [] apart_a apart_b to from = refl
same_spans low [] (t ∷ b) apart_a apart_b to from = absurd (true≢false (sym (from t.first (first_stands low t b apart_b))))
same_spans low (s ∷ a) [] apart_a apart_b to from = absurd (true≢false (sym (to s.first (first_stands low s a apart_a))))
same_spans low (s ∷ a) (t ∷ b) apart_a apart_b to from =
    let one = above_first low t b s.first apart_b (to s.first (first_stands low s a apart_a)) in
    let two = above_first low s a t.first apart_a (from t.first (first_stands low t b apart_b)) in
    let first : s.first ≡ t.first = omega (arith, one, two) in
    let three = reaches_far low s t a b apart_a apart_b first from in
    let four = reaches_far low t s b a apart_b apart_a (sym first) to in
    let last : s.last ≡ t.last = omega (arith, three, four) in
    let head = one_span s t first last in
    let rest = same_spans (s.last + 1) a b apart_a.2 (subst (λ n. AreApart (n + 1) b) (sym last) apart_b.2) (same_rest low s t a b apart_a last to) (same_rest low t s b a apart_b (sym last) from) in
    ap₂ (λ x xs. x ∷ xs) head rest

pub one_list_of_runs : (numbers : List ℕ) (a b : List Span) → AreRunsOf numbers a → AreRunsOf numbers b → a ≡ b
one_list_of_runs numbers a b runs_a runs_b =
    same_spans 0 a b runs_a.apart runs_b.apart
    (λ n is. then_stands b n (subst (λ ns. Contains ns n) (runs_a.records ∙ sym runs_b.records) (stands_then a n is)))
    (λ n is. then_stands a n (subst (λ ns. Contains ns n) (runs_b.records ∙ sym runs_a.records) (stands_then b n is)))
