-- Copies of records, one after another.
use Rattle.std.proofs.Common.{◌≡◌, ℕ, zero, suc, ◌+◌, ◌-◌, List, [], ◌∷◌, ◌++◌, take, drop, Some, None, ap, ◌∙◌}
use Rattle.std.specs.Prelude.{slice_get}
use Rattle.std.specs.List.{flat_map, range_with_len}
use Rattle.std.proofs.lemmas.Grind.{flat_map-append}
use Rattle.std.proofs.lemmas.List.{append-nil}
use Rattle.attempt_fates.specs.Fates.{record_at, records_in}
use Rattle.commit_turns.proofs.Lists.{range_more}
use Rattle.record_spans.specs.declared.span.Span.{Span}
use Rattle.record_spans.specs.Spans.{numbers_of, records_of}

-- what stands at a place
at_place : {R : Type 0} (xs : List R) (i : ℕ) (x : R) → slice_get xs i ≡ Some x → take 1 (drop i xs) ≡ x ∷ []
at_place [] i x is = absurd (none is)
  where
    none : None ≡ Some x → ⊥
    none e = cc
at_place (y ∷ xs) zero x is = ap (λ z. z ∷ []) (same is)
  where
    same : Some y ≡ Some x → y ≡ x
    same e = cc
at_place (y ∷ xs) (suc i) x is = at_place xs i x is

module _ {R : Type 0} (records : List R) where
  -- the records of so many numbers from one on
  abbrev pub from_on : ℕ → ℕ → List R
  from_on first many = flat_map (record_at records) (range_with_len first many)

  pub one_more : (first many : ℕ) (x : R) → slice_get records (first + many - 1) ≡ Some x → from_on first (many + 1) ≡ from_on first many ++ x ∷ []
  one_more first many x is =
      ap (flat_map (record_at records)) (range_more first many)
      ∙ flat_map-append (record_at records) (range_with_len first many) ((first + many) ∷ [])
      ∙ ap (λ ys. from_on first many ++ ys) (append-nil (record_at records (first + many)) ∙ at_place records (first + many - 1) x is)

  pub one_span : (span : Span) → records_in records (span ∷ []) ≡ from_on span.first (span.last + 1 - span.first)
  one_span span = ap (flat_map (record_at records)) (append-nil (numbers_of span))

  pub more_spans : (spans : List Span) (span : Span) → records_in records (spans ++ span ∷ []) ≡ records_in records spans ++ records_in records (span ∷ [])
  more_spans spans span =
      ap (flat_map (record_at records)) (flat_map-append numbers_of spans (span ∷ []))
      ∙ flat_map-append (record_at records) (records_of spans) (records_of (span ∷ []))
