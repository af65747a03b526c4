use Rattle.std.proofs.Common.{◌≡◌, ◌+◌, ℕ, List, Option, None, Some, length, option_map}
use Rattle.report_grammar.specs.steps.Lists.{each, pieces, pieces_left, span_of}
use Rattle.report_lines.proofs.Pieces.{after}
use Rattle.report_lines.proofs.lists.spans_of.Given as goal

abbrev pub invariant-loop-rest : goal.invariant-loop-rest
invariant-loop-rest l =
    after l.spans (each span_of (pieces_left 44 (option_map (λ s. s.now) l.rest))) ≡ each span_of (pieces 44 l.fn.text)

abbrev size : Option (List ℕ) → ℕ
size None = 0
size (Some text) = length text + 1

abbrev pub decreases-loop-rest : goal.decreases-loop-rest
decreases-loop-rest l = size (option_map (λ s. s.now) l.rest)
