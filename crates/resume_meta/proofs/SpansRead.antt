-- Spans are read where their text stands.
use Rattle.std.proofs.Common.{◌≡◌, ℕ, ◌+◌, ◌-◌, ◌<◌, ◌==◌, nat_lt, Bool, true, false, cond, codes, List, [], ◌∷◌, ◌++◌, length, not, take, drop, drop-cons, Option, None, Some, refl, ap, sym, ◌∙◌, add-one, arith, append-nil, append_assoc}
use Rattle.std.specs.Fmt.{decimal}
use Rattle.std.specs.List.{AllByRecursion, position, position_or_len, prefix_len}
use Rattle.std.proofs.lemmas.List.{take_all, take_rest, drop_all}
use Rattle.std.proofs.lemmas.List.Quantifiers.{position-Some}
use Rattle.std.proofs.lemmas.Option.{none-some, same_Some}
use Rattle.record_spans.specs.declared.span.Span.{Span}
use Rattle.report_grammar.specs.Report.{span_text, spans_text}
use Rattle.report_grammar.specs.WellFormed.{AreSpans, IsSpan}
use Rattle.report_grammar.specs.steps.Lists.{behind, front_of, rest_of, spans_of}
use Rattle.report_grammar.proofs.Lacking.{Lacks, decimal_lacks, front_there, high_lacks, rest_there, span_high}
use Rattle.report_grammar.proofs.Lists.{spans_read}
use Rattle.report_grammar.proofs.NumbersRead.{front_len}
use Rattle.resume_meta.specs.Meta.{kept_spans}

-- ---- a text without the byte

whole_len : (byte : ℕ) (xs : List ℕ) → Lacks byte xs → prefix_len (λ b. not (b == byte)) xs ≡ length xs
whole_len byte xs lacks =
    ap (prefix_len (λ b. not (b == byte))) (sym (append-nil xs)) ∙ front_len (λ b. not (b == byte)) xs [] lacks refl

pub front_whole : (byte : ℕ) (xs : List ℕ) → Lacks byte xs → front_of byte xs ≡ xs
front_whole byte xs lacks = ap (λ k. take k xs) (whole_len byte xs lacks) ∙ take_all (length xs) xs (omega arith)

pub rest_whole : (byte : ℕ) (xs : List ℕ) → Lacks byte xs → rest_of byte xs ≡ None
rest_whole byte xs lacks = ap (λ k. behind (drop k xs)) (whole_len byte xs lacks) ∙ ap behind (drop_all (length xs) xs (omega arith))

-- ---- where a byte stands

rest_at : (byte at : ℕ) (text : List ℕ) → at < length text → at ≡ prefix_len (λ b. not (b == byte)) text → rest_of byte text ≡ Some (drop (at + 1) text)
rest_at byte at text below is =
    ap (λ k. behind (drop k text)) (sym is) ∙ ap behind (drop-cons text at 0 below) ∙ ap (λ k. Some (drop k text)) (sym (add-one at))

place_is : (b : Bool) (at k : ℕ) → Some at ≡ cond b (Some k) None → at ≡ k
place_is true at k is = same_Some at k is
place_is false at k is = absurd (none-some at (sym is))

pub rest_found : (byte at : ℕ) (text : List ℕ) → Some at ≡ position (λ b. b == byte) text → Some (take (length text - (at + 1)) (drop (at + 1) text)) ≡ rest_of byte text
rest_found byte at text is =
    let found = position-Some (λ b. b == byte) text at 0 (sym is) in
    ap Some (take_rest text (at + 1)) ∙ sym (rest_at byte at text found.0 (place_is (nat_lt (position_or_len (λ b. b == byte) text) (length text)) at _ is))

-- ---- a span

dash_lacks : (span : Span) → IsSpan span → Lacks 45 (decimal span.first)
dash_lacks span is = decimal_lacks 45 span.first (omega (arith, is.first)) (λ least most. omega arith)

pub first_there : (span : Span) (text : List ℕ) → IsSpan span → text ≡ span_text span → front_of 45 text ≡ decimal span.first
first_there span text is e = ap (front_of 45) e ∙ front_there 45 (decimal span.first) (decimal span.last) refl (dash_lacks span is)

pub last_there : (span : Span) (text : List ℕ) → IsSpan span → text ≡ span_text span → rest_of 45 text ≡ Some (decimal span.last)
last_there span text is e = ap (rest_of 45) e ∙ rest_there 45 (decimal span.first) (decimal span.last) refl (dash_lacks span is)

pub span_made : (span : Span) (first last : ℕ) → first ≡ span.first → last ≡ span.last → Some (record { first = first; last = last }) ≡ Some span
span_made span first last is_first is_last = rw (is_first, is_last) refl

-- ---- spans joined by commas

-- the text of the spans that are left, if some are
abbrev pub text_of_left : List Span → Option (List ℕ)
text_of_left [] = None
text_of_left (span ∷ spans) = Some (spans_text (span ∷ spans))

comma_lacks : (span : Span) → IsSpan span → Lacks 44 (span_text span)
comma_lacks span is = high_lacks 44 (omega arith) (span_text span) (span_high span is)

front_left : (span : Span) (spans : List Span) → IsSpan span → front_of 44 (spans_text (span ∷ spans)) ≡ span_text span
front_left span [] is = front_whole 44 (span_text span) (comma_lacks span is)
front_left span (next ∷ spans) is = front_there 44 (span_text span) (spans_text (next ∷ spans)) refl (comma_lacks span is)

rest_left : (span : Span) (spans : List Span) → IsSpan span → rest_of 44 (spans_text (span ∷ spans)) ≡ text_of_left spans
rest_left span [] is = rest_whole 44 (span_text span) (comma_lacks span is)
rest_left span (next ∷ spans) is = rest_there 44 (span_text span) (spans_text (next ∷ spans)) refl (comma_lacks span is)

-- of all spans these are done, and the text of the others is left
pub record AreLeft (all done : List Span) (text : Option (List ℕ)) : Type 0 where
  pub left : List Span
  pub are : all ≡ done ++ left
  pub is : text ≡ text_of_left left

-- the next span, and those behind it
pub record IsNext (all done : List Span) (text : List ℕ) : Type 0 where
  pub span : Span
  pub more : List Span
  pub are : all ≡ done ++ span ∷ more
  pub fits : IsSpan span
  pub front : front_of 44 text ≡ span_text span
  pub rest : rest_of 44 text ≡ text_of_left more

all_at : (P : Span → Type 0) (xs : List Span) (y : Span) (ys : List Span) → AllByRecursion P (xs ++ y ∷ ys) → P y
all_at P [] y ys all = all.0
all_at P (x ∷ xs) y ys all = all_at P xs y ys all.1

all_same : (P : Span → Type 0) (xs ys : List Span) → xs ≡ ys → AllByRecursion P xs → AllByRecursion P ys
all_same P xs ys e all = rw (← e) all

pub next_left : (all done : List Span) (text : List ℕ) → AllByRecursion IsSpan all → AreLeft all done (Some text) → IsNext all done text
next_left all done text fit left = go left.left left.are left.is
  where
    go : (more : List Span) → all ≡ done ++ more → Some text ≡ text_of_left more → IsNext all done text
    go [] are is = absurd (none-some text (sym is))
    go (span ∷ more) are is =
        let e : text ≡ spans_text (span ∷ more) = same_Some _ _ is in
        let fits : IsSpan span = all_at IsSpan done span more (all_same IsSpan all (done ++ span ∷ more) are fit) in
        record {
          span = span;
          more = more;
          are = are;
          fits = fits;
          front = ap (front_of 44) e ∙ front_left span more fits;
          rest = ap (rest_of 44) e ∙ rest_left span more fits;
        }

pub all_more : (P : Span → Type 0) (xs : List Span) (y : Span) → AllByRecursion P xs → P y → AllByRecursion P (xs ++ y ∷ [])
all_more P [] y all last = (last, tt)
all_more P (x ∷ xs) y all last = (all.0, all_more P xs y all.1 last)

pub all_left : (all : List Span) (text : List ℕ) → AreSpans all → text ≡ spans_text all → AreLeft all [] (Some text)
all_left [] text are e = absurd (omega (arith, are.some))
all_left (span ∷ spans) text are e = record { left = span ∷ spans; are = refl; is = ap Some e }

pub done_one : (all done : List Span) (text : List ℕ) (span : Span) (rest : Option (List ℕ)) → (next : IsNext all done text) → span ≡ next.span → rest ≡ rest_of 44 text
    → AreLeft all (done ++ span ∷ []) rest
done_one all done text span rest next same e = record {
  left = next.more;
  are = next.are ∙ ap (λ s. done ++ s ∷ next.more) (sym same) ∙ sym (append_assoc done (span ∷ []) next.more);
  is = e ∙ next.rest;
}

pub none_left : (all done : List Span) → AreLeft all done None → done ≡ all
none_left all done left = go left.left left.are left.is
  where
    go : (more : List Span) → all ≡ done ++ more → None ≡ text_of_left more → done ≡ all
    go [] are is = sym (are ∙ append-nil done)
    go (span ∷ more) are is = absurd (none-some (spans_text (span ∷ more)) is)

-- ---- spans, or none

-- the text of some spans has a dash behind the first number
dash_there : (span : Span) (spans : List Span) → (rest : List ℕ) × (spans_text (span ∷ spans) ≡ decimal span.first ++ 45 ∷ rest)
dash_there span [] = (decimal span.last, refl)
dash_there span (next ∷ spans) =
    (decimal span.last ++ 44 ∷ spans_text (next ∷ spans), append_assoc (decimal span.first) (45 ∷ decimal span.last) (44 ∷ spans_text (next ∷ spans)))

pub has_dash : (span : Span) (spans : List Span) (text : List ℕ) → IsSpan span → text ≡ spans_text (span ∷ spans) → rest_of 45 text ≡ None → ⊥
has_dash span spans text is e none =
    let there = dash_there span spans in
    none-some there.0 (sym none ∙ (ap (rest_of 45) (e ∙ there.1) ∙ rest_there 45 (decimal span.first) there.0 refl (dash_lacks span is)))

pub none_is : (spans : List Span) (text : List ℕ) → AllByRecursion IsSpan spans → text ≡ kept_spans spans → text ≡ codes "none" → [] ≡ spans
none_is [] text fit e is = refl
none_is (span ∷ spans) text fit e is = absurd (has_dash span spans text fit.0 e (ap (rest_of 45) is))

pub kept_same : (xs ys : List Span) → AllByRecursion IsSpan xs → AllByRecursion IsSpan ys → kept_spans xs ≡ kept_spans ys → xs ≡ ys
kept_same [] ys first second e = none_is ys (codes "none") second e refl
kept_same (x ∷ xs) [] first second e = sym (none_is (x ∷ xs) (codes "none") first (sym e) refl)
kept_same (x ∷ xs) (y ∷ ys) first second e =
    let left : AreSpans (x ∷ xs) = record { some = omega arith; each = first } in
    let right : AreSpans (y ∷ ys) = record { some = omega arith; each = second } in
    same_Some _ _ (sym (spans_read (x ∷ xs) left) ∙ (ap spans_of e ∙ spans_read (y ∷ ys) right))
