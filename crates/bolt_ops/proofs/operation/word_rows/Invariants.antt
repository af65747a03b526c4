use Rattle.std.proofs.Common.{◌≡◌, [], ◌∷◌, map}
use Rattle.std.specs.Prelude.{filter, nat_lt, length, List, ℕ}
use Rattle.storm_values.specs.declared.value.Value.TheVariants.{Text}
use Rattle.bolt_ops.proofs.operation.word_rows.Given as goal

abbrev pub invariant-loop-word : goal.invariant-loop-word
invariant-loop-word l =
    l.rows ≡ map (λ word. Text word ∷ []) (filter (λ (piece : List ℕ). nat_lt 0 (length piece)) (map (λ x. x.now) l.yielded))
