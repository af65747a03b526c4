-- Separate spans are told by the numbers that stand in them: their numbers, one higher each, stand
-- in spans that are apart.
use Rattle.std.proofs.Common.{◌≡◌, ◌+◌, ◌-◌, ◌&&◌, ◌||◌, ℕ, zero, suc, Bool, List, [], ◌∷◌, map, true≢false, refl, sym, ap, ap₂, ◌∙◌, arith}
use Rattle.std.specs.Prelude.{nat_le}
use Rattle.std.proofs.lemmas.Bool.Decides.{nat_tests}
use Rattle.record_spans.specs.declared.span.Span.{Span}
use Rattle.record_spans.specs.Spans.{AreApart, stands_in}
use Rattle.record_spans.proofs.RunLemmas.{Same, same_spans}
use Rattle.record_spans.proofs.SpanLemmas.{beyond}
use Rattle.resume_meta.specs.Meta.{AreSeparate, meta_text}
use Rattle.resume_meta.specs.declared.meta.Meta.{Meta}
use Rattle.state_parts.specs.declared.answer.Commit.{Commit}
use Rattle.kept_commits.specs.Kept.{IsKept}

abbrev up : Span → Span
up span = record { first = span.first + 1; last = span.last + 1 }

abbrev down : Span → Span
down span = record { first = span.first - 1; last = span.last - 1 }

down-up : (spans : List Span) → map down (map up spans) ≡ spans
down-up [] = refl
down-up (span ∷ spans) =
    let first : span.first + 1 - 1 ≡ span.first = omega arith in
    let last : span.last + 1 - 1 ≡ span.last = omega arith in
    ap₂ (λ (s : Span) (ss : List Span). s ∷ ss) (ap₂ (λ (a b : ℕ). record { first = a; last = b }) first last) (down-up spans)

apart-up : (low : ℕ) (spans : List Span) → AreApart low spans → AreApart (low + 1) (map up spans)
apart-up low [] apart = tt
apart-up low (span ∷ spans) apart =
    let above = apart.0 in
    let fits = apart.1 in
    (omega (arith, above), omega (arith, fits), apart-up (span.last + 1) spans apart.2)

separate-up : (spans : List Span) → AreSeparate spans → AreApart 0 (map up spans)
separate-up [] separate = tt
separate-up (span ∷ spans) separate =
    let fits = separate.0 in
    (omega arith, omega (arith, fits), apart-up (span.last + 1) spans separate.1)

within-up : (a b n : ℕ) → (nat_le (a + 1) (suc n) && nat_le (suc n) (b + 1)) ≡ (nat_le a n && nat_le n b)
within-up a b n = grind (arith, nat_tests)

stands-up : (spans : List Span) (n : ℕ) → stands_in (map up spans) (suc n) ≡ stands_in spans n
stands-up [] n = refl
stands-up (span ∷ spans) n = ap₂ (λ (a b : Bool). a || b) (within-up span.first span.last n) (stands-up spans n)

same-up : (a b : List Span) → AreSeparate a → ((n : ℕ) → stands_in a n ≡ stands_in b n) → Same (map up a) (map up b)
same-up a b separate same zero is = absurd (true≢false (sym is ∙ beyond 0 (map up a) 0 (separate-up a separate) (omega arith)))
same-up a b separate same (suc n) is = stands-up b n ∙ sym (same n) ∙ sym (stands-up a n) ∙ is

pub one_list : (a b : List Span) → AreSeparate a → AreSeparate b → ((n : ℕ) → stands_in a n ≡ stands_in b n) → a ≡ b
one_list a b separate_a separate_b same =
    let all = same_spans 0 (map up a) (map up b) (separate-up a separate_a) (separate-up b separate_b) (same-up a b separate_a same) (same-up b a separate_b (λ n. sym (same n))) in
    sym (down-up a) ∙ ap (map down) all ∙ down-up b

pub one_text : (commits : List Commit) (a b : List ℕ) → IsKept commits a → IsKept commits b → a ≡ b
one_text commits a b kept_a kept_b =
    let spans = one_list kept_a.meta.spans kept_b.meta.spans kept_a.text.is_meta.separate kept_b.text.is_meta.separate (λ n. kept_a.of.gone n ∙ sym (kept_b.of.gone n)) in
    kept_a.text.is_text
    ∙ one kept_a.meta kept_b.meta (kept_a.of.txid ∙ sym kept_b.of.txid) (kept_a.of.input ∙ sym kept_b.of.input) spans
    ∙ sym kept_b.text.is_text
  where
    one : (x y : Meta) → x.txid ≡ y.txid → x.records ≡ y.records → x.spans ≡ y.spans → meta_text x ≡ meta_text y
    one x y txid records spans =
        ap₂ (λ (n : ℕ) (p : ℕ × List Span). meta_text (record { txid = n; records = p.0; spans = p.1 })) txid (ap₂ (λ (n : ℕ) (ss : List Span). (n, ss)) records spans)
