-- Marks, by place.
use Rattle.std.proofs.Common.{◌≡◌, ℕ, zero, suc, ◌+◌, ◌-◌, ◌<◌, ◌≤◌, Bool, true, cond, List, [], ◌∷◌, length, slice_index_or, refl, sym, ap, ap₂, ◌∙◌, arith}
use Rattle.record_spans.specs.declared.span.Span.{Span}
use Rattle.record_spans.specs.Spans.{stands_in}
use Rattle.record_offers.specs.Offers.{AreMarked, is_gone}
use Rattle.taken_records.specs.Taken.{marked, marked_from}

pub marked_length : (to : Bool) (spans : List Span) (n : ℕ) (marks : List Bool) → length (marked_from to spans n marks) ≡ length marks
marked_length to spans n [] = refl
marked_length to spans n (mark ∷ marks) = ap suc (marked_length to spans (n + 1) marks)

marked_at : (to : Bool) (spans : List Span) (n : ℕ) (marks : List Bool) (i : ℕ) → i < length marks
    → slice_index_or (marked_from to spans n marks) i true ≡ cond (stands_in spans (n + i)) to (slice_index_or marks i true)
marked_at to spans n [] i within = absurd (omega arith)
marked_at to spans n (mark ∷ marks) zero within = let at : n ≡ n + 0 = omega arith in ap (λ k. cond (stands_in spans k) to mark) at
marked_at to spans n (mark ∷ marks) (suc i) within =
    let at : n + 1 + i ≡ n + suc i = omega arith in
    marked_at to spans (n + 1) marks i (omega arith) ∙ ap (λ k. cond (stands_in spans k) to (slice_index_or marks i true)) at

pub are_marked : (spans : List Span) (to : Bool) (gone : List Bool) → AreMarked (stands_in spans) to gone (marked to spans gone)
are_marked spans to gone = record {
  len = marked_length to spans 1 gone;
  each = λ i within. let at : 1 + i ≡ i + 1 = omega arith in
      marked_at to spans 1 gone i within ∙ ap (λ k. cond (stands_in spans k) to (slice_index_or gone i true)) at;
}

same_marks : (a b : List Bool) → length a ≡ length b → ((i : ℕ) → i < length b → slice_index_or a i true ≡ slice_index_or b i true) → a ≡ b
same_marks [] [] len each = refl
same_marks [] (y ∷ b) len each = absurd (omega (arith, len))
same_marks (x ∷ a) [] len each = absurd (omega (arith, len))
same_marks (x ∷ a) (y ∷ b) len each =
    ap₂ (λ z zs. z ∷ zs) (each 0 (omega arith)) (same_marks a b (omega (arith, len)) (λ i within. each (suc i) (omega (arith, within))))

pub only_marked : (spans : List Span) (to : Bool) (old new : List Bool) → AreMarked (stands_in spans) to old new → new ≡ marked to spans old
only_marked spans to old new are =
    let made = are_marked spans to old in
    let len = marked_length to spans 1 old in
    same_marks new (marked to spans old) (are.len ∙ sym len) (λ i within. are.each i (omega (arith, within, len)) ∙ sym (made.each i (omega (arith, within, len))))

-- the mark of a record
pub gone_marked : (spans : List Span) (to : Bool) (gone : List Bool) (n : ℕ) → 1 ≤ n → n ≤ length gone
    → is_gone (marked to spans gone) n ≡ cond (stands_in spans n) to (is_gone gone n)
gone_marked spans to gone n first last =
    let at : n - 1 + 1 ≡ n = omega (arith, first) in
    (are_marked spans to gone).each (n - 1) (omega (arith, first, last)) ∙ ap (λ k. cond (stands_in spans k) to (is_gone gone n)) at
