-- Spans, and the records that they are.
use Rattle.std.proofs.Common.{◌≡◌, ℕ, zero, suc, ◌+◌, ◌-◌, ◌<◌, ◌≤◌, false, List, [], ◌∷◌, ◌++◌, Some, length, take, get_or, slice_set, refl, sym, ap, subst, ◌∙◌, arith}
use Rattle.std.specs.Prelude.{nat_le}
use Rattle.std.specs.List.{range_with_len, slice_get}
use Rattle.std.proofs.lemmas.Option.{get_or_from_slice_get, slice_get_within}
use Rattle.std.proofs.lemmas.Bool.Decides.{nat_tests}
use Rattle.std.proofs.lemmas.Grind.{flat_map-append}
use Rattle.std.proofs.lemmas.List.{append_assoc, append-nil, length-append, take_more}
use Rattle.std.proofs.lemmas.List.FromFn.{length-range_with_len}
use Rattle.record_spans.specs.declared.span.Span.{Span}
use Rattle.record_spans.specs.Spans.{AreApart, end_of, numbers_of, records_of, stands_in}

-- ---- numbers in a row

pub range_more : (a n : ℕ) → range_with_len a (suc n) ≡ range_with_len a n ++ (a + n) ∷ []
range_more a zero = ap (λ (x : ℕ). x ∷ []) (omega arith)
range_more a (suc n) =
    let last : a + 1 + n ≡ a + suc n = omega arith in
    ap (λ xs. a ∷ xs) (range_more (a + 1) n) ∙ ap (λ (x : ℕ). a ∷ (range_with_len (a + 1) n ++ x ∷ [])) last

pub range_append : (a m k : ℕ) → range_with_len a (m + k) ≡ range_with_len a m ++ range_with_len (a + m) k
range_append a zero k =
    let n : 0 + k ≡ k = omega arith in
    let from : a ≡ a + 0 = omega arith in
    ap (range_with_len a) n ∙ ap (λ b. range_with_len b k) from
range_append a (suc m) k =
    let n : suc m + k ≡ suc (m + k) = omega arith in
    let from : a + 1 + m ≡ a + suc m = omega arith in
    ap (range_with_len a) n ∙ ap (λ xs. a ∷ xs) (range_append (a + 1) m k)
    ∙ ap (λ b. a ∷ (range_with_len (a + 1) m ++ range_with_len b k)) from

-- ---- spans

pub end_push : (low : ℕ) (xs : List Span) (s : Span) → end_of low (xs ++ s ∷ []) ≡ s.last + 1
end_push low [] s = refl
end_push low (x ∷ xs) s = end_push (x.last + 1) xs s

pub apart_push : (low : ℕ) (xs : List Span) (s : Span) → AreApart low xs → end_of low xs < s.first → s.first ≤ s.last → AreApart low (xs ++ s ∷ [])
apart_push low [] s apart behind fits = (behind, fits, tt)
apart_push low (x ∷ xs) s apart behind fits = (apart.0, apart.1, apart_push (x.last + 1) xs s apart.2 behind fits)

pub apart_front : (low : ℕ) (xs : List Span) (s : Span) → AreApart low (xs ++ s ∷ []) → AreApart low xs × (end_of low xs < s.first) × (s.first ≤ s.last)
apart_front low [] s apart = (tt, apart.0, apart.1)
apart_front low (x ∷ xs) s apart =
    let later = apart_front (x.last + 1) xs s apart.2 in
    ((apart.0, apart.1, later.0), later.1, later.2)

-- the last span with one record more
abbrev pub longer : Span → ℕ → Span
longer run n = record { first = run.first; last = n }

pub apart_longer : (xs : List Span) (run : Span) (n : ℕ) → AreApart 0 (xs ++ run ∷ []) → run.last ≡ n - 1 → AreApart 0 (xs ++ longer run n ∷ [])
apart_longer xs run n apart is =
    let front = apart_front 0 xs run apart in
    apart_push 0 xs (longer run n) front.0 front.1 (let fits = front.2 in omega arith)

numbers_longer : (run : Span) (n : ℕ) → 1 ≤ n → run.first ≤ run.last → run.last ≡ n - 1 → numbers_of (longer run n) ≡ numbers_of run ++ n ∷ []
numbers_longer run n some fits is =
    let len : n + 1 - run.first ≡ suc (run.last + 1 - run.first) = omega arith in
    let at : run.first + (run.last + 1 - run.first) ≡ n = omega arith in
    ap (range_with_len run.first) len ∙ range_more run.first (run.last + 1 - run.first)
    ∙ ap (λ (x : ℕ). numbers_of run ++ x ∷ []) at

pub records_one : (s : Span) → records_of (s ∷ []) ≡ numbers_of s
records_one s = append-nil (numbers_of s)

pub records_push : (xs : List Span) (s : Span) → records_of (xs ++ s ∷ []) ≡ records_of xs ++ numbers_of s
records_push xs s = flat_map-append numbers_of xs (s ∷ []) ∙ ap (λ ns. records_of xs ++ ns) (records_one s)

pub records_longer : (xs : List Span) (run : Span) (n : ℕ) → AreApart 0 (xs ++ run ∷ []) → 1 ≤ n → run.last ≡ n - 1
    → records_of (xs ++ longer run n ∷ []) ≡ records_of (xs ++ run ∷ []) ++ n ∷ []
records_longer xs run n apart some is =
    let front = apart_front 0 xs run apart in
    records_push xs (longer run n)
    ∙ ap (λ ns. records_of xs ++ ns) (numbers_longer run n some front.2 is)
    ∙ sym (append_assoc (records_of xs) (numbers_of run) (n ∷ []))
    ∙ ap (λ ns. ns ++ n ∷ []) (sym (records_push xs run))

pub numbers_single : (n : ℕ) → numbers_of (record { first = n; last = n }) ≡ n ∷ []
numbers_single n = let len : n + 1 - n ≡ 1 = omega arith in ap (range_with_len n) len

-- the last of some spans in the place of another
last_set : (spans : List Span) (d : Span) → 0 < length spans
    → (front : List Span) × (spans ≡ front ++ get_or spans (length spans - 1) d ∷ []) × ((s : Span) → slice_set spans (length spans - 1) s ≡ front ++ s ∷ [])
last_set [] d some = absurd (omega arith)
last_set (x ∷ []) d some = ([], refl, λ s. refl)
last_set (x ∷ y ∷ spans) d some =
    let rest = last_set (y ∷ spans) d (omega arith) in
    let at : length (x ∷ y ∷ spans) - 1 ≡ suc (length (y ∷ spans) - 1) = omega arith in
    (x ∷ rest.0, rw at (ap (λ xs. x ∷ xs) rest.1), λ s. rw at (ap (λ xs. x ∷ xs) (rest.2 s)))

-- the run that was the last one grew, or another begins
pub grown : (old front new : List Span) (run : Span) (n : ℕ) → old ≡ front ++ run ∷ [] → new ≡ front ++ longer run n ∷ []
    → AreApart 0 old → 1 ≤ n → run.last ≡ n - 1
    → AreApart 0 new × (records_of new ≡ records_of old ++ n ∷ []) × (end_of 0 new ≡ n + 1)
grown old front new run n was is apart some last =
    let before = subst (AreApart 0) was apart in (
      subst (AreApart 0) (sym is) (apart_longer front run n before last),
      ap records_of is ∙ records_longer front run n before some last ∙ ap (λ xs. records_of xs ++ n ∷ []) (sym was),
      ap (end_of 0) is ∙ end_push 0 front (longer run n),
    )

pub begun : (old new : List Span) (n : ℕ) → new ≡ old ++ record { first = n; last = n } ∷ []
    → AreApart 0 old → end_of 0 old < n
    → AreApart 0 new × (records_of new ≡ records_of old ++ n ∷ []) × (end_of 0 new ≡ n + 1)
begun old new n is apart behind = (
  subst (AreApart 0) (sym is) (apart_push 0 old (record { first = n; last = n }) apart behind (omega arith)),
  ap records_of is ∙ records_push old (record { first = n; last = n }) ∙ ap (λ ns. records_of old ++ ns) (numbers_single n),
  ap (end_of 0) is ∙ end_push 0 old (record { first = n; last = n }),
)

-- ---- spans by place

pub span_at : (low most : ℕ) (spans : List Span) (j : ℕ) (d : Span) → AreApart low spans → end_of low spans ≤ most → j < length spans
    → (low < (get_or spans j d).first) × ((get_or spans j d).first ≤ (get_or spans j d).last) × ((get_or spans j d).last + 1 ≤ most)
span_at low most [] j d apart end within = absurd (omega arith)
span_at low most (span ∷ spans) zero d apart end within = (apart.0, apart.1, ends (span.last + 1) spans apart.2 end)
  where
    ends : (from : ℕ) (spans : List Span) → AreApart from spans → end_of from spans ≤ most → from ≤ most
    ends from [] apart end = end
    ends from (span ∷ spans) apart end =
        let a = apart.0 in
        let b = apart.1 in
        let c = ends (span.last + 1) spans apart.2 end in
        omega (arith, a, b, c)
span_at low most (span ∷ spans) (suc j) d apart end within =
    let later = span_at (span.last + 1) most spans j d apart.2 end (omega arith) in
    let a = apart.0 in
    let b = apart.1 in
    let c = later.0 in
    (omega (arith, a, b, c), later.1, later.2)

-- no number up to the one above which the spans lie stands in them
pub beyond : (low : ℕ) (spans : List Span) (n : ℕ) → AreApart low spans → n ≤ low → stands_in spans n ≡ false
beyond low [] n apart below = refl
beyond low (span ∷ spans) n apart below =
    let a = apart.0 in
    let b = apart.1 in
    let first : nat_le span.first n ≡ false = grind (arith, nat_tests, a, below) in
    let later = beyond (span.last + 1) spans n apart.2 (omega (arith, a, b, below)) in
    rw (first, later) refl

-- ---- the spans in front of one

pub apart_at : (low : ℕ) (spans : List Span) (j : ℕ) (d : Span) → AreApart low spans → j < length spans
    → (end_of low (take j spans) < (get_or spans j d).first) × ((get_or spans j d).first ≤ (get_or spans j d).last)
apart_at low [] j d apart within = absurd (omega arith)
apart_at low (span ∷ spans) zero d apart within = (apart.0, apart.1)
apart_at low (span ∷ spans) (suc j) d apart within = apart_at (span.last + 1) spans j d apart.2 (omega arith)

pub apart_more : (spans : List Span) (j : ℕ) (d : Span) → j < length spans → AreApart 0 (take j spans) → end_of 0 (take j spans) < (get_or spans j d).first
    → (get_or spans j d).first ≤ (get_or spans j d).last → AreApart 0 (take (j + 1) spans) × (end_of 0 (take (j + 1) spans) ≡ (get_or spans j d).last + 1)
apart_more spans j d within apart behind fits =
    let more = take_more spans j d within in (
      subst (AreApart 0) (sym more) (apart_push 0 (take j spans) (get_or spans j d) apart behind fits),
      ap (end_of 0) more ∙ end_push 0 (take j spans) (get_or spans j d),
    )

pub fewer_before : (low : ℕ) (spans : List Span) (j : ℕ) (d : Span) → AreApart low spans → j < length spans
    → length (records_of (take j spans)) + low < (get_or spans j d).first
fewer_before low [] j d apart within = absurd (omega arith)
fewer_before low (span ∷ spans) zero d apart within = let a = apart.0 in omega (arith, a)
fewer_before low (span ∷ spans) (suc j) d apart within =
    let a = apart.0 in
    let b = apart.1 in
    let later = fewer_before (span.last + 1) spans j d apart.2 (omega arith) in
    let both = length-append (numbers_of span) (records_of (take j spans)) in
    let here = length-range_with_len span.first (span.last + 1 - span.first) in
    omega (arith, a, b, later, both, here)

pub count_more : (spans : List Span) (j : ℕ) (d : Span) → j < length spans → (get_or spans j d).first ≤ (get_or spans j d).last
    → length (records_of (take (j + 1) spans)) ≡ length (records_of (take j spans)) + ((get_or spans j d).last - (get_or spans j d).first + 1)
count_more spans j d within fits =
    let span = get_or spans j d in
    let more = ap (λ xs. length (records_of xs)) (take_more spans j d within) ∙ ap length (records_push (take j spans) span) in
    let both = length-append (records_of (take j spans)) (numbers_of span) in
    let here = length-range_with_len span.first (span.last + 1 - span.first) in
    more ∙ both ∙ ap (λ n. length (records_of (take j spans)) + n) (here ∙ omega (arith, fits))

pub grown_in_place : (spans : List Span) (n : ℕ) (d : Span) → 0 < length spans → end_of 0 spans ≡ n → AreApart 0 spans → 1 ≤ n
    → AreApart 0 (slice_set spans (length spans - 1) (longer (get_or spans (length spans - 1) d) n))
    × (records_of (slice_set spans (length spans - 1) (longer (get_or spans (length spans - 1) d) n)) ≡ records_of spans ++ n ∷ [])
    × (end_of 0 (slice_set spans (length spans - 1) (longer (get_or spans (length spans - 1) d) n)) ≡ n + 1)
grown_in_place spans n d some next apart first =
    let split = last_set spans d some in
    let run = get_or spans (length spans - 1) d in
    let end = ap (end_of 0) split.1 ∙ end_push 0 split.0 run in
    grown spans split.0 (slice_set spans (length spans - 1) (longer run n)) run n split.1 (split.2 (longer run n)) apart first (omega (arith, end, next))

pub last_got : (spans : List Span) (run : Span) → slice_get spans (length spans - 1) ≡ Some run → end_of 0 spans ≡ run.last + 1
last_got spans run got =
    let split = last_set spans run (let inside = slice_get_within spans (length spans - 1) run got in omega (arith, inside)) in
    ap (end_of 0) split.1 ∙ end_push 0 split.0 (get_or spans (length spans - 1) run)
    ∙ ap (λ (s : Span). s.last + 1) (get_or_from_slice_get spans (length spans - 1) run run got)
