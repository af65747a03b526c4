-- Runs of spans, and the numbers that stand in them.
use Rattle.std.proofs.Common.{◌≡◌, ℕ, suc, ◌+◌, ◌-◌, ◌<◌, ◌≤◌, ◌&&◌, ◌||◌, max, Bool, true, false, List, [], ◌∷◌, ◌++◌, length, get_or, take, slice_set, IsPermutation, refl, sym, ap, ap₂, subst, ◌∙◌, arith}
use Rattle.std.specs.Prelude.{nat_le}
use Rattle.std.proofs.lemmas.Bool.Decides.{nat_tests}
use Rattle.std.proofs.lemmas.List.Folds.{list_any-append, list_any_more}
use Rattle.std.proofs.lemmas.List.Sorted.{list_any-IsPermutation}
use Rattle.record_spans.specs.declared.span.Span.{Span}
use Rattle.record_spans.specs.Spans.{end_of, is_within, stands_in}
use Rattle.record_spans.proofs.SpanLemmas.{apart_front, apart_push, end_push, longer}
use Rattle.resume_meta.specs.Meta.{AreSeparate}
use Rattle.kept_commits.specs.Steps.{begin_of}

-- ---- the last run

begin_push : (low : ℕ) (xs : List Span) (s : Span) → begin_of low (xs ++ s ∷ []) ≡ s.first
begin_push low [] s = refl
begin_push low (x ∷ xs) s = begin_push x.first xs s

separate_push : (xs : List Span) (s : Span) → AreSeparate xs → (0 < length xs → end_of 0 xs < s.first) → s.first ≤ s.last → AreSeparate (xs ++ s ∷ [])
separate_push [] s separate behind fits = (fits, tt)
separate_push (x ∷ xs) s separate behind fits = (separate.0, apart_push (x.last + 1) xs s separate.1 (behind (omega arith)) fits)

separate_front : (xs : List Span) (s : Span) → AreSeparate (xs ++ s ∷ []) → AreSeparate xs × (0 < length xs → end_of 0 xs < s.first) × (s.first ≤ s.last)
separate_front [] s separate = (tt, λ some. absurd (omega (arith, some)), separate.0)
separate_front (x ∷ xs) s separate =
    let front = apart_front (x.last + 1) xs s separate.1 in
    ((separate.0, front.0), λ some. front.1, front.2)

-- the last of some spans in the place of another
last_set : (spans : List Span) (d : Span) → 0 < length spans
    → (front : List Span) × (spans ≡ front ++ get_or spans (length spans - 1) d ∷ []) × ((s : Span) → slice_set spans (length spans - 1) s ≡ front ++ s ∷ [])
last_set [] d some = absurd (omega (arith, some))
last_set (x ∷ []) d some = ([], refl, λ s. refl)
last_set (x ∷ y ∷ spans) d some =
    let rest = last_set (y ∷ spans) d (omega arith) in
    let at : length (x ∷ y ∷ spans) - 1 ≡ suc (length (y ∷ spans) - 1) = omega arith in
    (x ∷ rest.0, rw at (ap (λ xs. x ∷ xs) rest.1), λ s. rw at (ap (λ xs. x ∷ xs) (rest.2 s)))

-- ---- one span more

-- numbers of a run that a span makes longer
within_both : (a l f s n : ℕ) → a ≤ l → a ≤ f → f ≤ l + 1 → f ≤ s
    → (nat_le a n && nat_le n (max l s)) ≡ ((nat_le a n && nat_le n l) || (nat_le f n && nat_le n s))
within_both a l f s n run behind near fits = grind (arith, nat_tests)

or_last : (x y z : Bool) → (x || ((y || z) || false)) ≡ ((x || (y || false)) || z)
or_last true y z = refl
or_last false true z = refl
or_last false false true = refl
or_last false false false = refl

-- the last run with a span that begins in it or right behind it
grown : (front : List Span) (run span : Span) → AreSeparate (front ++ run ∷ []) → run.first ≤ span.first → span.first ≤ run.last + 1 → span.first ≤ span.last
    → AreSeparate (front ++ longer run (max run.last span.last) ∷ [])
    × ((n : ℕ) → stands_in (front ++ longer run (max run.last span.last) ∷ []) n ≡ (stands_in (front ++ run ∷ []) n || is_within span n))
grown front run span separate behind near fits =
    let parts = separate_front front run separate in
    let own = parts.2 in (
      separate_push front (longer run (max run.last span.last)) parts.0 parts.1 (omega (arith, own)),
      λ n.
          list_any-append (λ (s : Span). is_within s n) front (longer run (max run.last span.last) ∷ [])
          ∙ ap (λ b. stands_in front n || (b || false)) (within_both run.first run.last span.first span.last n own behind near fits)
          ∙ or_last (stands_in front n) (is_within run n) (is_within span n)
          ∙ ap (λ b. b || is_within span n) (sym (list_any-append (λ (s : Span). is_within s n) front (run ∷ []))),
    )

-- one span more, behind the last run
pub begun : (runs made : List Span) (span : Span) → made ≡ runs ++ span ∷ [] → AreSeparate runs → (0 < length runs → end_of 0 runs < span.first) → span.first ≤ span.last
    → AreSeparate made × (begin_of 0 made ≤ span.first)
begun runs made span is separate behind fits =
    let begins = ap (begin_of 0) is ∙ begin_push 0 runs span in
    (subst AreSeparate (sym is) (separate_push runs span separate behind fits), omega (arith, begins))

-- one span more, in the place of the last run
pub grown_at : (runs : List Span) (span run : Span) (place last : ℕ) → place ≡ length runs → run ≡ get_or runs (place - 1) run → last ≡ max run.last span.last
    → 0 < length runs → AreSeparate runs → begin_of 0 runs ≤ span.first → span.first ≤ end_of 0 runs → span.first ≤ span.last
    → AreSeparate (slice_set runs (place - 1) (longer run last)) × (begin_of 0 (slice_set runs (place - 1) (longer run last)) ≤ span.first)
    × ((n : ℕ) → stands_in (slice_set runs (place - 1) (longer run last)) n ≡ (stands_in runs n || is_within span n))
grown_at runs span run place last is_end is_run is_last some separate behind near fits =
    let split = last_set runs run some in
    let at : run ≡ get_or runs (length runs - 1) run = subst (λ (k : ℕ). run ≡ get_or runs (k - 1) run) is_end is_run in
    let was : runs ≡ split.0 ++ run ∷ [] = subst (λ (s : Span). runs ≡ split.0 ++ s ∷ []) (sym at) split.1 in
    let most = max run.last span.last in
    let is : slice_set runs (place - 1) (longer run last) ≡ split.0 ++ longer run most ∷ [] =
    ap₂ (λ (k n : ℕ). slice_set runs (k - 1) (longer run n)) is_end is_last ∙ split.2 (longer run most) in
    let begins = ap (begin_of 0) was ∙ begin_push 0 split.0 run in
    let ends = ap (end_of 0) was ∙ end_push 0 split.0 run in
    let begun = begin_push 0 split.0 (longer run most) in
    let made = grown split.0 run span (subst AreSeparate was separate) (omega (arith, begins, behind)) (omega (arith, ends, near)) fits in (
      subst AreSeparate (sym is) made.0,
      subst (λ (xs : List Span). begin_of 0 xs ≤ span.first) (sym is) (omega (arith, begun, begins, behind)),
      λ n. ap (λ (xs : List Span). stands_in xs n) is ∙ made.1 n ∙ ap (λ (xs : List Span). stands_in xs n || is_within span n) (sym was),
    )

-- ---- both lists

pub both_stand : (some others all : List Span) → all ≡ some ++ others → (sorted now runs : List Span) → IsPermutation all sorted → now ≡ sorted
    → ((n : ℕ) → stands_in runs n ≡ stands_in now n) → (n : ℕ) → stands_in runs n ≡ (stands_in some n || stands_in others n)
both_stand some others all is sorted now runs same at stand n =
    stand n ∙ ap (λ (xs : List Span). stands_in xs n) at ∙ sym (list_any-IsPermutation (λ (s : Span). is_within s n) all sorted same)
    ∙ ap (λ (xs : List Span). stands_in xs n) is ∙ list_any-append (λ (s : Span). is_within s n) some others

-- ---- the spans so far

pub more_stand : (spans : List Span) (i n : ℕ) (d : Span) (b : Bool) → i < length spans → b ≡ stands_in (take i spans) n
    → (b || is_within (get_or spans i d) n) ≡ stands_in (take (i + 1) spans) n
more_stand spans i n d b within is = ap (λ b. b || is_within (get_or spans i d) n) is ∙ sym (list_any_more (λ (s : Span). is_within s n) spans i d within)
