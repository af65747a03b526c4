-- Fronts of partitions.
use Rattle.std.proofs.Common.{◌≡◌, ◌≢◌, ℕ, zero, suc, ◌+◌, ◌/◌, ◌%◌, ◌<◌, ◌≤◌, ◌==◌, ◌&&◌, ◌||◌, inl, inr, Bool, true, false, List, [], ◌∷◌, length, take, drop, get_or, slice_index, slice_set, true≢false, refl, sym, ap, subst, ◌∙◌, arith}
use Rattle.std.specs.Prelude.{nat_le}
use Rattle.std.proofs.Math.Nat.{add-mod_right, add-mul, mod-eq_of_lt, mod-le, mul-le-mul_right}
use Rattle.std.proofs.lemmas.Bool.{cases_eq, cases_lt}
use Rattle.std.proofs.lemmas.Bool.Decides.{nat_tests}
use Rattle.std.proofs.lemmas.List.{get_or-set_other, length-set, take-append-drop, take_more}
use Rattle.std.proofs.lemmas.List.Folds.{list_any-append}
use Rattle.std.proofs.lemmas.Grind.{get_or-set_at}
use Rattle.std.proofs.lemmas.Nat.{div-add-mod', mod_below}
use Rattle.record_spans.specs.declared.span.Span.{Span}
use Rattle.record_spans.specs.Spans.{AreApart, end_of, is_within, stands_in}
use Rattle.record_spans.specs.Fronts.{AreFronts, IsNew, Misses, Reaches}
use Rattle.record_spans.proofs.SpanLemmas.{beyond, span_at}

-- ---- remainders

-- of numbers closer than p two with one remainder are the same
pub mod_apart : (p a i : ℕ) → a ≤ i → i < a + p → i % p ≡ a % p → i ≡ a
mod_apart p a i least most same =
    let ea = div-add-mod' a p in
    let ei = div-add-mod' i p in
    elim (cases_lt (a / p) (i / p)) [
      | inl later ↦
          let up : a / p + 1 ≤ i / p = omega (arith, later) in
          let far = mul-le-mul_right p up in
          let one = add-mul (a / p) 1 p in
          absurd (omega (arith, far, one, ea, ei, same, most))
      | inr not_later ↦
          let near = mul-le-mul_right p not_later in
          omega (arith, near, ea, ei, same, least)
    ]

-- ---- one record more

module _ (gone : ℕ → Bool) (next : List ℕ) (at : ℕ) (some : 0 < length next) (is : slice_index next (at % length next) ≡ at) (reaches : Reaches gone next) where
  within : at % length next < length next
  within = mod_below at (length next) some

  here : (k : ℕ) → k ≡ at % length next → slice_index (slice_set next (at % length next) (at + length next)) k ≡ at + length next
  here k e = get_or-set_at next (at % length next) k (at + length next) 0 e within

  there : (k : ℕ) → k ≢ at % length next → slice_index (slice_set next (at % length next) (at + length next)) k ≡ slice_index next k
  there k other = get_or-set_other next (at % length next) k (at + length next) 0 other

  step_own : (q : ℕ) → q < length next → slice_index (slice_set next (at % length next) (at + length next)) q % length next ≡ q
  step_own q below =
      elim (cases_eq q (at % length next)) [
        | inl e ↦ ap (λ b. b % length next) (here q e) ∙ add-mod_right at (length next) ∙ sym e
        | inr other ↦ ap (λ b. b % length next) (there q other) ∙ reaches.own q below
      ]

  step_passed : (after : ℕ → Bool) → ((n : ℕ) → after n ≡ (gone n || n == at + 1)) → (i : ℕ) → i < slice_index (slice_set next (at % length next) (at + length next)) (i % length next) → after (i + 1) ≡ true
  step_passed after adds i below =
      elim (cases_eq i at) [
        | inl e ↦ let same : (i + 1 == at + 1) ≡ true = grind (arith, nat_tests, e) in adds (i + 1) ∙ rw same (or_true (gone (i + 1)))
        | inr other ↦ adds (i + 1) ∙ or_left (gone (i + 1)) (i + 1 == at + 1) (old other)
      ]
    where
      or_true : (b : Bool) → (b || true) ≡ true
      or_true true = refl
      or_true false = refl

      or_left : (a b : Bool) → a ≡ true → (a || b) ≡ true
      or_left a b h = rw h refl

      old : i ≢ at → gone (i + 1) ≡ true
      old other =
          elim (cases_eq (i % length next) (at % length next)) [
            | inl e ↦
                let far : i < at + length next = subst (λ b. i < b) (here (i % length next) e) below in
                elim (cases_lt i at) [
                  | inl earlier ↦ reaches.below i (subst (λ b. i < b) (sym (ap (slice_index next) e ∙ is)) earlier)
                  | inr later ↦ absurd (other (mod_apart (length next) at i later far e))
                ]
            | inr elsewhere ↦ reaches.below i (subst (λ b. i < b) (there (i % length next) elsewhere) below)
          ]

  step_left : (after : ℕ → Bool) → ((n : ℕ) → after n ≡ (gone n || n == at + 1)) → (i : ℕ) → slice_index (slice_set next (at % length next) (at + length next)) (i % length next) ≤ i → after (i + 1) ≡ false
  step_left after adds i above =
      elim (cases_eq (i % length next) (at % length next)) [
        | inl e ↦
            let far : at + length next ≤ i = subst (λ b. b ≤ i) (here (i % length next) e) above in
            let other : (i + 1 == at + 1) ≡ false = grind (arith, nat_tests, far, some) in
            let was = reaches.from i (subst (λ b. b ≤ i) (sym (ap (slice_index next) e ∙ is)) (omega (arith, far))) in
            adds (i + 1) ∙ rw (was, other) refl
        | inr elsewhere ↦
            let other : (i + 1 == at + 1) ≡ false = apart elsewhere in
            let was = reaches.from i (subst (λ b. b ≤ i) (there (i % length next) elsewhere) above) in
            adds (i + 1) ∙ rw (was, other) refl
      ]
    where
      apart : i % length next ≢ at % length next → (i + 1 == at + 1) ≡ false
      apart elsewhere =
          elim (cases_eq i at) [
            | inl e ↦ absurd (elsewhere (ap (λ k. k % length next) e))
            | inr other ↦ grind (arith, nat_tests, other)
          ]

pub reaches_more : (gone after : ℕ → Bool) (next : List ℕ) (at : ℕ) → 0 < length next → slice_index next (at % length next) ≡ at → Reaches gone next
    → ((n : ℕ) → after n ≡ (gone n || n == at + 1)) → Reaches after (slice_set next (at % length next) (at + length next))
reaches_more gone after next at some is reaches adds =
    let len = length-set next (at % length next) (at + length next) in
    record {
      own = rw len (step_own gone next at some is reaches);
      below = rw len (step_passed gone next at some is reaches after adds);
      from = rw len (step_left gone next at some is reaches after adds);
    }

-- a partition whose next record is not this one
pub misses_at : (gone old : ℕ → Bool) (next : List ℕ) (span : Span) (at : ℕ) → 0 < length next → slice_index next (at % length next) ≢ at → Reaches gone next
    → ((n : ℕ) → gone n ≡ (old n || nat_le span.first n && nat_le n at)) → IsNew old span → span.first ≤ at + 1 → at + 1 ≤ span.last → Misses (length next) old span
misses_at gone old next span at some not reaches is new least most =
    elim (cases_lt at (slice_index next (at % length next))) [
      | inl later ↦
          let passed = reaches.below at later in
          let fresh = new (at + 1) least most in
          let past : nat_le (at + 1) at ≡ false = grind (arith, nat_tests) in
          absurd (true≢false (sym passed ∙ is (at + 1) ∙ rw (fresh, past) (and_false (nat_le span.first (at + 1)))))
      | inr up_to ↦
          let place : slice_index next (at % length next) < at = omega (arith, not, up_to) in
          let q = mod_below at (length next) some in
          let own = reaches.own (at % length next) q in
          let open_ = reaches.from (slice_index next (at % length next)) (rw own (omega arith)) in
          let parts = neither (old (slice_index next (at % length next) + 1)) _ (sym (is (slice_index next (at % length next) + 1)) ∙ open_) in
          record {
            at = at;
            before = slice_index next (at % length next);
            within = (least, most);
            earlier = below (slice_index next (at % length next) + 1) (omega (arith, place)) parts.1;
            same = own;
            left = parts.0;
          }
    ]
  where
    and_false : (b : Bool) → (b && false) ≡ false
    and_false true = refl
    and_false false = refl

    neither : (a b : Bool) → (a || b) ≡ false → (a ≡ false) × (b ≡ false)
    neither false b h = (refl, h)
    neither true b h = absurd (true≢false h)

    below : (n : ℕ) → n ≤ at → (nat_le span.first n && nat_le n at) ≡ false → n < span.first
    below n inside h =
        elim (cases_lt n span.first) [
          | inl lower ↦ lower
          | inr upper ↦
              let a : nat_le span.first n ≡ true = grind (arith, nat_tests, upper) in
              let b : nat_le n at ≡ true = grind (arith, nat_tests, inside) in
              absurd (true≢false (sym (rw (a, b) refl) ∙ h))
        ]

-- ---- spans that are apart

pub stands_split : (spans : List Span) (j n : ℕ) → stands_in spans n ≡ (stands_in (take j spans) n || stands_in (drop j spans) n)
stands_split spans j n = ap (λ xs. stands_in xs n) (sym (take-append-drop j spans)) ∙ list_any-append (λ span. is_within span n) (take j spans) (drop j spans)

pub not_from : (low : ℕ) (spans : List Span) (j n : ℕ) (d : Span) → AreApart low spans → j < length spans → n < (get_or spans j d).first → stands_in (drop j spans) n ≡ false
not_from low [] j n d apart within below = absurd (omega arith)
not_from low (span ∷ spans) zero n d apart within below =
    let b = apart.1 in
    let first : nat_le span.first n ≡ false = grind (arith, nat_tests, below) in
    let later = beyond (span.last + 1) spans n apart.2 (omega (arith, b, below)) in
    rw (first, later) refl
not_from low (span ∷ spans) (suc j) n d apart within below = not_from (span.last + 1) spans j n d apart.2 (omega arith) below

pub not_before : (low : ℕ) (spans : List Span) (j n : ℕ) (d : Span) → AreApart low spans → j < length spans → (get_or spans j d).first ≤ n → stands_in (take j spans) n ≡ false
not_before low [] j n d apart within above = absurd (omega arith)
not_before low (span ∷ spans) zero n d apart within above = refl
not_before low (span ∷ spans) (suc j) n d apart within above =
    let next = (span_at (span.last + 1) (end_of (span.last + 1) spans) spans j d apart.2 (omega arith) (omega arith)).0 in
    let last : nat_le n span.last ≡ false = grind (arith, nat_tests, next, above) in
    let later = not_before (span.last + 1) spans j n d apart.2 (omega arith) above in
    rw (last, later) (none (nat_le span.first n))
  where
    none : (b : Bool) → ((b && false) || false) ≡ false
    none true = refl
    none false = refl

-- ---- steps of the loops

pub adds_one : (g : Bool) (first n at : ℕ) → first ≤ at + 1 → (g || nat_le first n && nat_le n (at + 1)) ≡ ((g || nat_le first n && nat_le n at) || n == at + 1)
adds_one true first n at least = refl
adds_one false first n at least =
    elim (cases_lt at n) [
      | inr low ↦
          let a : nat_le n at ≡ true = grind (arith, nat_tests, low) in
          let b : nat_le n (at + 1) ≡ true = grind (arith, nat_tests, low) in
          let c : (n == at + 1) ≡ false = grind (arith, nat_tests, low) in
          rw (a, b, c) (plain (nat_le first n))
      | inl high ↦
          let a : nat_le n at ≡ false = grind (arith, nat_tests, high) in
          elim (cases_eq n (at + 1)) [
            | inl e ↦
                let b : nat_le n (at + 1) ≡ true = grind (arith, nat_tests, e) in
                let c : (n == at + 1) ≡ true = grind (arith, nat_tests, e) in
                let f : nat_le first n ≡ true = grind (arith, nat_tests, e, least) in
                rw (a, b, c, f) refl
            | inr other ↦
                let b : nat_le n (at + 1) ≡ false = grind (arith, nat_tests, high, other) in
                let c : (n == at + 1) ≡ false = grind (arith, nat_tests, other) in
                rw (a, b, c) (nothing (nat_le first n))
          ]
    ]
  where
    plain : (b : Bool) → (b && true) ≡ ((b && true) || false)
    plain true = refl
    plain false = refl

    nothing : (b : Bool) → (b && false) ≡ ((b && false) || false)
    nothing true = refl
    nothing false = refl

pub reaches_same : (f g : ℕ → Bool) (next : List ℕ) → ((n : ℕ) → g n ≡ f n) → Reaches f next → Reaches g next
reaches_same f g next same reaches = record {
  own = reaches.own;
  below = λ i below. same (i + 1) ∙ reaches.below i below;
  from = λ i above. same (i + 1) ∙ reaches.from i above;
}

pub reaches_none : (next : List ℕ) → ((k : ℕ) → k < length next → slice_index next k ≡ k) → 0 < length next → Reaches (λ n. false) next
reaches_none next set some = record {
  own = λ q below. ap (λ b. b % length next) (set q below) ∙ mod-eq_of_lt below;
  below = λ i below. absurd (let place = set (i % length next) (mod_below i (length next) some) in let least = mod-le i (length next) in omega (arith, below, place, least));
  from = λ i above. refl;
}

pub stands_more : (spans : List Span) (j n : ℕ) (d : Span) → j < length spans → stands_in (take (j + 1) spans) n ≡ (stands_in (take j spans) n || is_within (get_or spans j d) n)
stands_more spans j n d within = ap (λ xs. stands_in xs n) (take_more spans j d within) ∙ list_any-append (λ span. is_within span n) (take j spans) (get_or spans j d ∷ []) ∙ ap (λ b. stands_in (take j spans) n || b) (or_none (is_within (get_or spans j d) n))
  where
    or_none : (b : Bool) → (b || false) ≡ b
    or_none true = refl
    or_none false = refl

pub stands_at : (spans : List Span) (j n : ℕ) (d : Span) → j < length spans → is_within (get_or spans j d) n ≡ true → stands_in spans n ≡ true
stands_at [] j n d within is = absurd (omega arith)
stands_at (span ∷ spans) zero n d within is = rw is refl
stands_at (span ∷ spans) (suc j) n d within is = rw (stands_at spans j n d (omega arith) is) (or_true (is_within span n))
  where
    or_true : (b : Bool) → (b || true) ≡ true
    or_true true = refl
    or_true false = refl

-- what misses a record is no front
pub not_fronts : (partitions : ℕ) (spans : List Span) (j : ℕ) (d : Span) → AreApart 0 spans → j < length spans → Misses partitions (stands_in (take j spans)) (get_or spans j d) → AreFronts partitions spans → ⊥
not_fronts partitions spans j d apart within misses fronts =
    let a = misses.within.0 in
    let b = misses.within.1 in
    let early = misses.earlier in
    let least : nat_le (get_or spans j d).first (misses.at + 1) ≡ true = grind (arith, nat_tests, a) in
    let most : nat_le (misses.at + 1) (get_or spans j d).last ≡ true = grind (arith, nat_tests, b) in
    let stands = stands_at spans j (misses.at + 1) d within (rw (least, most) refl) in
    let front = fronts misses.before misses.at (omega (arith, a, early)) misses.same stands in
    let none = stands_split spans j (misses.before + 1) ∙ rw (misses.left, not_from 0 spans j (misses.before + 1) d apart within early) refl in
    true≢false (sym front ∙ none)

pub are_fronts_then : (partitions : ℕ) (spans : List Span) (next : List ℕ) → length next ≡ partitions → Reaches (stands_in spans) next → AreFronts partitions spans
are_fronts_then partitions spans next len reaches i j before same stands =
    elim (cases_lt j (slice_index next (j % length next))) [
      | inl below ↦
          let same_next : i % length next ≡ j % length next = subst (λ p. i % p ≡ j % p) (sym len) same in
          reaches.below i (subst (λ k. i < slice_index next k) (sym same_next) (omega (arith, below, before)))
      | inr above ↦ absurd (true≢false (sym stands ∙ reaches.from j above))
    ]
