-- A meta is read where its text stands.
use Rattle.std.proofs.Common.{◌≡◌, ℕ, ◌<◌, ◌^◌, List, [], ◌∷◌, ◌++◌, Some, codes, refl, ap, ap₂, sym, ◌∙◌, arith, append_assoc}
use Rattle.std.specs.Prelude.{option_and_then}
use Rattle.std.specs.Fmt.{decimal}
use Rattle.std.specs.List.{AllByRecursion}
use Rattle.std.proofs.lemmas.Fmt.{decimal_injective}
use Rattle.std.proofs.lemmas.Option.{same_Some}
use Rattle.record_spans.specs.declared.span.Span.{Span}
use Rattle.report_grammar.specs.WellFormed.{IsSpan}
use Rattle.report_grammar.proofs.Lacking.{Lacks, decimal_lacks, front_there, rest_there, spans_lack}
use Rattle.resume_meta.specs.Meta.{IsMeta, IsTextOf, kept_spans, meta_text}
use Rattle.resume_meta.specs.declared.meta.Meta.{Meta}
use Rattle.resume_meta.specs.steps.Reading.{PartTexts, parts_in, records_in, spans_in}
use Rattle.resume_meta.proofs.SpansRead.{kept_same}

space_lacks : (n : ℕ) → n < 2 ^ 64 → Lacks 32 (decimal n)
space_lacks n small = decimal_lacks 32 n (omega arith) (λ least most. omega arith)

line_end_lacks : (spans : List Span) → AllByRecursion IsSpan spans → Lacks 10 (kept_spans spans)
line_end_lacks [] fit = refl
line_end_lacks (span ∷ spans) fit = spans_lack 10 (omega arith) (span ∷ spans) fit

-- ---- the parts of a text, from the last one on

abbrev spans_behind : List ℕ → List ℕ
spans_behind spans = codes "spans " ++ (spans ++ 10 ∷ [])

abbrev records_behind : List ℕ → List ℕ → List ℕ
records_behind records spans = codes "records " ++ (records ++ 32 ∷ spans_behind spans)

abbrev meta_body : List ℕ → List ℕ → List ℕ → List ℕ
meta_body txid records spans = codes "meta 1 txid " ++ (txid ++ 32 ∷ records_behind records spans)

abbrev texts : List ℕ → List ℕ → List ℕ → PartTexts
texts txid records spans = record { txid = txid; records = records; spans = spans }

spans_read : (txid records spans : List ℕ) → Lacks 10 spans → spans_in txid records (spans_behind spans) ≡ Some (texts txid records spans)
unfolding spans_in
spans_read txid records spans lacks = ap (λ s. Some (texts txid records s)) (front_there 10 spans [] refl lacks)

records_read : (txid records spans : List ℕ) → Lacks 32 records → Lacks 10 spans → records_in txid (records_behind records spans) ≡ Some (texts txid records spans)
unfolding records_in
records_read txid records spans lacks later =
    ap₂ (λ front rest. option_and_then (spans_in txid front) rest) (front_there 32 records (spans_behind spans) refl lacks) (rest_there 32 records (spans_behind spans) refl lacks)
    ∙ spans_read txid records spans later

parts_read : (txid records spans : List ℕ) → Lacks 32 txid → Lacks 32 records → Lacks 10 spans → parts_in (meta_body txid records spans) ≡ Some (texts txid records spans)
unfolding parts_in
parts_read txid records spans lacks later last =
    let rest : List ℕ = records_behind records spans in
    ap₂ (λ front rest. option_and_then (records_in front) rest) (front_there 32 txid rest refl lacks) (rest_there 32 txid rest refl lacks)
    ∙ records_read txid records spans later last

meta_shape : (meta : Meta) → meta_text meta ≡ meta_body (decimal meta.txid) (decimal meta.records) (kept_spans meta.spans)
unfolding meta_text
meta_shape meta = simp append_assoc refl

abbrev pub texts_of : Meta → PartTexts
texts_of meta = texts (decimal meta.txid) (decimal meta.records) (kept_spans meta.spans)

pub parts_there : (bytes : List ℕ) (meta : Meta) → IsTextOf bytes meta → parts_in bytes ≡ Some (texts_of meta)
parts_there bytes meta is =
    let good = is.is_meta in
    ap parts_in (is.is_text ∙ meta_shape meta)
    ∙ parts_read (decimal meta.txid) (decimal meta.records) (kept_spans meta.spans) (space_lacks meta.txid good.txid) (space_lacks meta.records good.records) (line_end_lacks meta.spans good.spans)

pub meta_made : (meta : Meta) (txid records : ℕ) (spans : List Span) → txid ≡ meta.txid → records ≡ meta.records → spans ≡ meta.spans
    → Some (record { txid = txid; records = records; spans = spans }) ≡ Some meta
meta_made meta txid records spans is_txid is_records is_spans = rw (is_txid, is_records, is_spans) refl

pub metas_same : (meta other : Meta) → IsMeta meta → IsMeta other → meta_text meta ≡ meta_text other → meta ≡ other
metas_same meta other is is_other e =
    let read = parts_there (meta_text meta) meta (record { is_meta = is; is_text = refl }) in
    let also = parts_there (meta_text meta) other (record { is_meta = is_other; is_text = e }) in
    let same : texts_of meta ≡ texts_of other = same_Some _ _ (sym read ∙ also) in
    same_Some _ _ (meta_made other meta.txid meta.records meta.spans
    (decimal_injective meta.txid other.txid is.txid is_other.txid (ap (λ (p : PartTexts). p.txid) same))
    (decimal_injective meta.records other.records is.records is_other.records (ap (λ (p : PartTexts). p.records) same))
    (kept_same meta.spans other.spans is.spans is_other.spans (ap (λ (p : PartTexts). p.spans) same)))
