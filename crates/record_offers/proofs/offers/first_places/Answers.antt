use Rattle.std.proofs.Common.{◌≡◌, ◌+◌, ◌++◌, [], ◌∷◌, ℕ, ap, ap₂, sym, add-one, ◌∙◌, arith}
use Rattle.std.specs.List.{range_with_len}
use Rattle.record_spans.proofs.SpanLemmas.{range_more}
use Rattle.record_offers.proofs.offers.first_places.Goals as goal

plus_zero : (n : ℕ) → n ≡ 0 + n
plus_zero n = omega arith

pub loop-partition-preserved : goal.loop-partition-preserved
loop-partition-preserved c =
    c.in_ok-push.ensures.items ∙ ap₂ (λ xs (n : ℕ). xs ++ n ∷ []) c.loop-partition.invariant (plus_zero c.loop-partition.partition) ∙ sym (ap (range_with_len 0) (add-one c.loop-partition.partition) ∙ range_more 0 c.loop-partition.partition)
