use Rattle.std.proofs.Common.{◌≡◌, ◌+◌, ℕ, List, Option, None, Some, length, option_map}
use Rattle.report_grammar.specs.steps.Lists.{each, number_of, pieces, pieces_left}
use Rattle.report_lines.proofs.Pieces.{after}
use Rattle.report_lines.proofs.lists.path_of.Given as goal

abbrev pub invariant-loop-rest : goal.invariant-loop-rest
invariant-loop-rest l =
    after l.path (each (number_of 4294967295) (pieces_left 46 (option_map (λ s. s.now) l.rest))) ≡ each (number_of 4294967295) (pieces 46 l.fn.text)

abbrev size : Option (List ℕ) → ℕ
size None = 0
size (Some text) = length text + 1

abbrev pub decreases-loop-rest : goal.decreases-loop-rest
decreases-loop-rest l = size (option_map (λ s. s.now) l.rest)
