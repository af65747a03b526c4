-- What is kept of a run that is to go on later, and its text. This project's own.
use Rattle.std.specs.Prelude.{◌≡◌, ℕ, ◌+◌, ◌<◌, ◌≤◌, ◌^◌, List, [], ◌∷◌, ◌++◌, codes, decimal}
use Rattle.std.specs.List.{AllByRecursion}
use Rattle.record_spans.specs.declared.span.Span.{Span}
use Rattle.record_spans.specs.Spans.{AreApart}
use Rattle.report_grammar.specs.Report.{spans_text}
use Rattle.report_grammar.specs.WellFormed.{IsSpan}
use Rattle.resume_meta.specs.declared.meta.Meta.{Meta}

-- Each span has its first number at most its last, they rise and none touches another. The first
-- number may be 0.
abbrev pub AreSeparate : List Span → Type 0
AreSeparate [] = Unit {0}
AreSeparate (span ∷ spans) = (span.first ≤ span.last) × AreApart (span.last + 1) spans

-- the numbers are of 64 bits, and the spans are separate
pub record IsMeta (meta : Meta) : Type 0 where
  pub txid : meta.txid < 2 ^ 64
  pub records : meta.records < 2 ^ 64
  pub spans : AllByRecursion IsSpan meta.spans
  pub separate : AreSeparate meta.spans

-- spans joined by commas, or none
abbrev pub kept_spans : List Span → List ℕ
kept_spans [] = codes "none"
kept_spans (span ∷ spans) = spans_text (span ∷ spans)

-- meta 1 txid TXID records RECORDS spans SPANS, and a line end
unfoldable pub meta_text : Meta → List ℕ
meta_text meta =
    codes "meta 1 txid " ++ decimal meta.txid ++ codes " records " ++ decimal meta.records
    ++ codes " spans " ++ kept_spans meta.spans ++ codes "\n"

-- these bytes are the text of this meta
pub record IsTextOf (bytes : List ℕ) (meta : Meta) : Type 0 where
  pub is_meta : IsMeta meta
  pub is_text : bytes ≡ meta_text meta

-- these bytes are the text of no meta
abbrev pub IsNoText : List ℕ → Type 0
IsNoText bytes = (meta : Meta) → IsTextOf bytes meta → ⊥
