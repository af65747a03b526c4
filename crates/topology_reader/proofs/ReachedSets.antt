-- Sets of bolts as words of bits, and the paths that they hold.
use Rattle.std.proofs.Common.{◌≡◌, ℕ, zero, suc, ◌+◌, ◌-◌, ◌*◌, ◌%◌, ◌^◌, max, ◌<◌, ◌≤◌, ◌==◌, Bool, true, false, ◌||◌, ◌&&◌, cond, List, [], ◌∷◌, ◌++◌, map, length, take, get_or, slice_index, bit_or, Option, Some, None, option_map, refl, sym, ap, ◌∙◌, inl, inr, w64, add-one, arith, get_or-append-add}
use Rattle.topology_reader.proofs.Common.{cond-true, cond-false, cases_eq, eq-eqb, ne_eqb, take_more, length-map, get_or-map, filter_map-append, cons_option, list_any, range_with_len, option_map_or, Origin, Input, FileParts, Cycle, name_at, source_of, is_component, reaches_over, reaches, sources_among, feeds, component_at, ComponentPart, cycle_fault, has, AreReached, led, list_any-append}
use Rattle.std.specs.List.{find}
use Rattle.std.proofs.lemmas.List.{get_or_append_left}
use Rattle.topology_reader.proofs.Numbered.{inputs_are}
use Rattle.std.proofs.lemmas.Nat.Bits.{bit_at_or, bit_at-lt, bit_at-zero, bit_at_set_same, bit_at_set_other}
use Rattle.std.specs.Int.{bit_at}
use Rattle.topology_plan.specs.declared.parts.Origin.TheVariants as origin
use Rattle.std.proofs.Math.Bool.{and_comm, or-true, or-false}

-- ---- one word

or_max : (a b : ℕ) → a < 2 → b < 2 → (max a b == 1) ≡ ((a == 1) || (b == 1))
or_max zero zero l r = refl
or_max zero (suc zero) l r = refl
or_max (suc zero) zero l r = refl
or_max (suc zero) (suc zero) l r = refl
or_max (suc (suc a)) b l r = absurd (omega arith)
or_max a (suc (suc b)) l r = absurd (omega arith)

pub has-or : (left right a : ℕ) → has (bit_or left right) a ≡ (has left a || has right a)
has-or left right a = ap (λ bit. bit == 1) (bit_at_or left right a) ∙ or_max (bit_at left a) (bit_at right a) (bit_at-lt left a) (bit_at-lt right a)

-- a word with one more bit
has-put : (word b a : ℕ) → b < 64 → has (bit_or word (1 * 2 ^ b % 2 ^ 64)) a ≡ (has word a || (a == b))
has-put word b a below =
    elim (cases_eq a b) [
      | inl same ↦
          rw (same, eq-eqb b b refl) (ap (λ bit. bit == 1) (bit_at_set_same w64 word b below) ∙ sym (or-true (has word b)))
      | inr other ↦
          rw (ne_eqb a b other) (ap (λ bit. bit == 1) (bit_at_set_other w64 word b below a other) ∙ sym (or-false (has word a)))
    ]

pub has-none : (a : ℕ) → has 0 a ≡ false
has-none a = ap (λ bit. bit == 1) (bit_at-zero a)

-- the word of one bit
pub has-one : (b a : ℕ) → b < 64 → has (1 * 2 ^ b % 2 ^ 64) a ≡ (a == b)
has-one b a below = has-put 0 b a below ∙ ap (λ bit. (bit == 1) || (a == b)) (bit_at-zero a)

-- ---- one bolt more to go through

led_cases : (b : Bool) (word through a : ℕ) → has (cond b (bit_or word through) word) a ≡ (has word a || (b && has through a))
led_cases true word through a = has-or word through a
led_cases false word through a = sym (or-false (has word a))

-- paths over one bolt more
pub reached-more : (n : ℕ) (p : FileParts) (sets new : List ℕ) → n < length p.bolts → AreReached n p sets → new ≡ map (led n (slice_index sets n)) sets → AreReached (n + 1) p new
reached-more n p sets new within sets_are is = record {
  counted = ap length is ∙ length-map sets (led n (slice_index sets n)) ∙ sets_are.counted;
  held = λ a b below.
      let inside : b < length sets = omega (arith, sets_are.counted) in
      let at : slice_index new b ≡ led n (slice_index sets n) (slice_index sets b) = ap (λ xs. get_or xs b 0) is ∙ get_or-map (led n (slice_index sets n)) sets b 0 0 inside in
      rw (add-one, at)
      (led_cases (has (slice_index sets b) n) (slice_index sets b) (slice_index sets n) a
      ∙ rw (sets_are.held a b below, sets_are.held n b below, sets_are.held a n within) (ap (λ also. reaches_over n p a b || also) (and_comm (reaches_over n p n b) (reaches_over n p a n))));
}

-- ---- the sources of a bolt as a set

one_source : (a : ℕ) (found : Option Origin) → list_any (is_component a) (cons_option found []) ≡ option_map_or (is_component a) found false
one_source a None = refl
one_source a (Some origin.Spout) = refl
one_source a (Some (origin.Component b)) = or-false (a == b)

-- one more input
pub sources-more : (p : FileParts) (inputs : List Input) (i a : ℕ) (input : Input) → i < length inputs → input ≡ get_or inputs i input
    → list_any (is_component a) (sources_among p (take (i + 1) inputs)) ≡ (list_any (is_component a) (sources_among p (take i inputs)) || option_map_or (is_component a) (source_of p input.from) false)
sources-more p inputs i a input below is =
    let source = λ (x : Input). source_of p x.from in
    let longer : take (i + 1) inputs ≡ take i inputs ++ input ∷ [] = take_more inputs i input below ∙ ap (λ x. take i inputs ++ x ∷ []) (sym is) in
    ap (λ xs. list_any (is_component a) (sources_among p xs)) longer
    ∙ ap (list_any (is_component a)) (filter_map-append source (take i inputs) (input ∷ []))
    ∙ list_any-append (is_component a) (sources_among p (take i inputs)) (sources_among p (input ∷ []))
    ∙ ap (λ b. list_any (is_component a) (sources_among p (take i inputs)) || b) (one_source a (source_of p input.from))

-- the set of one bolt more
pub sets_pushed : (p : FileParts) (sets : List ℕ) (set c : ℕ) (part : ComponentPart) → component_at p c ≡ Some part → length sets ≡ c → ((a b : ℕ) → b < c → has (slice_index sets b) a ≡ feeds p a b)
    → ((a : ℕ) → has set a ≡ list_any (is_component a) (sources_among p part.inputs)) → (a b : ℕ) → b < c + 1 → has (slice_index (sets ++ set ∷ []) b) a ≡ feeds p a b
sets_pushed p sets set c part at counted held is a b below =
    elim (cases_eq b c) [
      | inl same ↦
          let last : b ≡ length sets + 0 = omega (arith, same, counted) in
          ap (λ i. has (slice_index (sets ++ set ∷ []) i) a) last
          ∙ ap (λ word. has word a) (get_or-append-add sets (set ∷ []) 0 0)
          ∙ is a
          ∙ sym (ap (λ i. feeds p a i) same ∙ ap (λ inputs. list_any (is_component a) (sources_among p inputs)) (inputs_are p c part at))
      | inr other ↦ ap (λ word. has word a) (get_or_append_left sets (set ∷ []) 0 b (omega arith)) ∙ held a b (omega arith)
    ]

-- ---- the first in a range

pub range-past : (test : ℕ → Bool) (i n : ℕ) → i < n → test i ≡ false → find test (range_with_len (i + 1) (n - (i + 1))) ≡ find test (range_with_len i (n - i))
range-past test i n below fails =
    let left : n - i ≡ suc (n - (i + 1)) = omega arith in
    rw left (sym (cond-false (test i) (Some i) (find test (range_with_len (i + 1) (n - (i + 1)))) fails))

pub range-here : (test : ℕ → Bool) (i n : ℕ) → i < n → test i ≡ true → find test (range_with_len i (n - i)) ≡ Some i
range-here test i n below passes =
    let left : n - i ≡ suc (n - (i + 1)) = omega arith in
    rw left (cond-true (test i) (Some i) (find test (range_with_len (i + 1) (n - (i + 1)))) passes)

pub range-end : (test : ℕ → Bool) (i n : ℕ) → n ≤ i → find test (range_with_len i (n - i)) ≡ None
range-end test i n past =
    let left : n - i ≡ zero = omega arith in
    rw left refl

pub range-same : (left right : ℕ → Bool) (first n : ℕ) → ((c : ℕ) → c < first + n → left c ≡ right c) → find left (range_with_len first n) ≡ find right (range_with_len first n)
range-same left right first zero same = refl
range-same left right first (suc n) same =
    ap (λ b. cond b (Some first) (find left (range_with_len (first + 1) n))) (same first (omega arith))
    ∙ ap (cond (right first) (Some first)) (range-same left right (first + 1) n (λ c below. same c (omega arith)))

-- ---- cycles

pub cycle_fault-reached : (p : FileParts) (sets : List ℕ) → AreReached (length p.bolts) p sets → cycle_fault p ≡ option_map (λ c. Cycle (name_at p c)) (find (λ c. has (slice_index sets c) c) (range_with_len 0 (length sets)))
unfolding reaches
cycle_fault-reached p sets sets_are =
    ap (option_map (λ c. Cycle (name_at p c)))
    (range-same (λ c. reaches p c c) (λ c. has (slice_index sets c) c) 0 (length p.bolts) (λ c below. sym (sets_are.held c c (omega arith)))
    ∙ ap (λ n. find (λ c. has (slice_index sets c) c) (range_with_len 0 n)) (sym sets_are.counted))
